-- A record of the log (document 01, "The log and its order"). Assumes nothing.
use Rattle.std.specs.Prelude.{ℕ, Bool, true, false}

-- "Kinds: 1 new, 2 read, 3 write, 4 volatile read, 5 volatile write, 6 acquire, 7 release, 8 fork, 9 join, 10 read lacking its key, 11 write
-- lacking its key."
pub data Kind : Type 0 where
  new read write readv writev acquire release fork join lacks_read lacks_write : Kind

-- the number of a kind
abbrev pub kind_number : Kind → ℕ
kind_number new = 1
kind_number read = 2
kind_number write = 3
kind_number readv = 4
kind_number writev = 5
kind_number acquire = 6
kind_number release = 7
kind_number fork = 8
kind_number join = 9
kind_number lacks_read = 10
kind_number lacks_write = 11

-- "kind 4, thread 3, object 5, field 5, value 5"
pub record Record : Type 0 where
  pub kind : Kind
  pub thread : ℕ
  pub object : ℕ
  pub field : ℕ
  pub value : ℕ

-- a record of these columns: kind, thread, object, field, value
abbrev pub entry : Kind → ℕ → ℕ → ℕ → ℕ → Record
entry k p o f v = record { kind = k; thread = p; object = o; field = f; value = v }

-- "A plain access (2, 3, 10, 11)"
abbrev pub is_plain : Kind → Bool
is_plain new = false
is_plain read = true
is_plain write = true
is_plain readv = false
is_plain writev = false
is_plain acquire = false
is_plain release = false
is_plain fork = false
is_plain join = false
is_plain lacks_read = true
is_plain lacks_write = true

-- kinds 10 and 11
abbrev pub lacks_key : Kind → Bool
lacks_key new = false
lacks_key read = false
lacks_key write = false
lacks_key readv = false
lacks_key writev = false
lacks_key acquire = false
lacks_key release = false
lacks_key fork = false
lacks_key join = false
lacks_key lacks_read = true
lacks_key lacks_write = true
