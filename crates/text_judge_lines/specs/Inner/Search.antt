-- The search for the earlier access. For inner contracts; no reader of the entries' promise needs it. Assumes nothing.
use Rattle.std.specs.Prelude.{ℕ, ◌≤◌, ◌≡◌, Bool, ◌&&◌, ◌||◌, List, eqb}
use Rattle.std.proofs.Math.Option.{none}
use Rattle.format.specs.Version.{Version}
use Rattle.log_records.specs.Packed.{kind_of, log_of}
use Rattle.log_records.specs.Record.{is_plain}
use Rattle.log_records.specs.Refusals.{log_refusal}
use Rattle.log_order.specs.Accesses.{is_write}
use Rattle.log_conflicts.specs.Conflicts.{Conflicting}
use Rattle.log_packing.specs.declared.Columns.{Columns}
use Rattle.text.specs.Inner.Wrote.{Wrote}
use Rattle.text_race_lines.specs.Lines.{conflicting_lines}

-- the later of two accesses is plain: whether the earlier, which has the columns w, conflicts with it
unfoldable pub conflict_test : Columns → Columns → Bool
conflict_test w x =
    ((is_plain (kind_of w.kind) && (is_write (kind_of w.kind) || is_write (kind_of x.kind))) && eqb w.object x.object) && eqb w.field x.field

-- a log that is not refused, of which record j has no chain from an earlier access that conflicts with it
pub record Named (v : Version) (b : List ℕ) (j : ℕ) : Type 0 where
  pub passed : log_refusal b ≡ none
  pub conflicting : Conflicting v (log_of b) j

-- record i is the last of those earlier accesses
pub record LastOf (v : Version) (b : List ℕ) (j i : ℕ) : Type 0 where
  pub last : Conflicting v (log_of b) j
  pub index_is : last.index ≡ i
  pub latest : (d : Conflicting v (log_of b) j) → d.index ≤ i

-- the lines about the two
pub record WroteConflict (v : Version) (b : List ℕ) (j : ℕ) (before after : List ℕ) (r : ℕ) : Type 0 where
  pub last : Conflicting v (log_of b) j
  pub latest : (d : Conflicting v (log_of b) j) → d.index ≤ last.index
  pub wrote : Wrote before 0 (conflicting_lines last) after r
