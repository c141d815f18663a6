-- `log_refusals::right_fours` meets its contract. The invariant: no record so far is wrong. The measure is the count of records left. Assumes nothing.
use Rattle.log_records.specs.Refusals.{wrong_record}
use lib.ListN.{length}
use mathlib.Core.Bool.{false}
use mathlib.Core.Path.{◌≡◌}
use Prim.Native.Nat.{ℕ, ◌-◌, ◌/◌, ◌<◌, ◌≤◌}
use Rattle.log_refusals.proofs.right_fours.Given as goal

abbrev pub invariant-loop-index : goal.invariant-loop-index
invariant-loop-index l = (l.index ≤ l.count) × (l.count ≡ length l.log / 3) × ((k : ℕ) → k < l.index → wrong_record l.log k ≡ false)

abbrev pub decreases-loop-index : goal.decreases-loop-index
decreases-loop-index l = l.count - l.index
