-- The rows of threads, monitors and volatile fields. For inner contracts; no reader of the entries' promise needs it. Assumes nothing.
use Rattle.std.specs.Prelude.{ℕ, ◌+◌, ◌*◌, ◌<◌, ◌≡◌, ◌&&◌, cond, eqb}
use Rattle.log_clocks.specs.Inner.Rows.{Row, clock_of}
use Rattle.log_packing.specs.declared.Columns.{Columns}

-- the row that a record with these columns hears or tells, by the kinds that do so of a monitor, of a volatile field and of the thread that the field names;
-- else its thread's. Rows 0 to 31 are the threads', 32 to 63 the monitors', and from 64 on the volatile fields'.
unfoldable pub link_row : (version monitor volatile thread : ℕ) → Columns → ℕ
link_row version monitor volatile thread r =
    cond (eqb r.kind monitor) (32 + r.object)
    (cond (eqb r.kind volatile && eqb version 1) (64 + r.object * 32 + r.field)
    (cond (eqb r.kind thread) r.field r.thread))

-- the row that it hears: an acquire (6) the monitor's, a volatile read (4) the field's, a join (9) the thread's
abbrev pub source_row : (version : ℕ) → Columns → ℕ
source_row version r = link_row version 6 4 9 r

-- the row that it tells: a release (7) the monitor's, a volatile write (5) the field's, a fork (8) the thread's
abbrev pub target_row : (version : ℕ) → Columns → ℕ
target_row version r = link_row version 7 5 8 r

-- the row of a thread after a record whose index is 1 less than `mark`
pub record Marked (row : Row) (thread mark : ℕ) (r : Row) : Type 0 where
  pub clocks_are : (u : ℕ) → u < 8 → clock_of r u ≡ cond (eqb thread u) mark (clock_of row u)
