-- The rows that a record is held against and kept in, and which records hear and tell. No reader of the entries' promises needs it. Assumes nothing.
use Rattle.std.specs.Prelude.{ℕ, ◌+◌, ◌*◌, ◌%◌, Bool, ◌||◌, cond, eqb}
use Rattle.format.specs.Version.{Version, v0, v1}

-- the first of the three rows of the place with a number; the row of thread q is q
abbrev pub place_row : ℕ → ℕ
place_row n = 8 + 3 * n

-- a plain access: kinds 2 and 10, 3 and 11
abbrev pub is_access : ℕ → Bool
is_access k = eqb (k % 8) 2 || eqb (k % 8) 3

-- a kind of volatile access in the version in which volatile fields order something; in the other 12, which is no record's kind
abbrev pub ordering_kind : Version → ℕ → ℕ
ordering_kind v0 volatile = 12
ordering_kind v1 volatile = volatile

-- one of the two kinds that pass on what has come to a place, of its monitor and of its volatile field: an acquire (6) and a volatile read (4) hear it, a
-- release (7) and a volatile write (5) tell it
abbrev pub passes : (monitor volatile : ℕ) → ℕ → Bool
passes monitor volatile k = eqb k monitor || eqb k volatile

-- the row that a plain access of this kind must have heard: a write (3, 11) that of the field's accesses, a read (2, 10) that of its writes
abbrev pub held_row : ℕ → ℕ → ℕ
held_row k at = cond (eqb (k % 8) 3) (at + 1) (at + 2)

-- the row that it is kept in besides that of the field's accesses: a write in that of its writes
abbrev pub kept_row : ℕ → ℕ → ℕ
kept_row k at = cond (eqb (k % 8) 3) (at + 2) (at + 1)
