-- What a record draws from and feeds besides its own thread, as the index of a flag. No reader of the entry's promise needs it. Assumes nothing.
use Rattle.std.specs.Prelude.{ℕ, ◌+◌, ◌*◌, cond, eqb}
use Rattle.log_packing.specs.declared.Columns.{Columns}

-- the flags of an object's monitor and of its field f; thread q has flag q
abbrev pub monitor_row : ℕ → ℕ
monitor_row o = 32 + o

abbrev pub field_row : ℕ → ℕ → ℕ
field_row o f = 64 + (o * 32 + f)

-- an acquire (6) draws from the monitor, a volatile read (4) from the field, a join (9) from the thread
unfoldable pub drawn_row : Columns → ℕ
drawn_row r = cond (eqb r.kind 6) (monitor_row r.object)
    (cond (eqb r.kind 4) (field_row r.object r.field) (cond (eqb r.kind 9) r.field r.thread))

-- a release (7) feeds the monitor, a volatile write (5) the field, a fork (8) the thread
unfoldable pub fed_row : Columns → ℕ
fed_row r = cond (eqb r.kind 7) (monitor_row r.object)
    (cond (eqb r.kind 5) (field_row r.object r.field) (cond (eqb r.kind 8) r.field r.thread))
