-- `log_refusals::lowest_wrong` meets its contract. The invariant: no record so far is wrong. Assumes nothing.
use Rattle.log_records.specs.Refusals.{wrong_record}
use mathlib.Core.Bool.{false}
use mathlib.Core.Path.{◌≡◌}
use Prim.Native.Nat.{ℕ, ◌<◌}
use Rattle.log_refusals.proofs.lowest_wrong.Given as goal

abbrev pub invariant-loop-index : goal.invariant-loop-index
invariant-loop-index l = (k : ℕ) → k < l.index → wrong_record l.log k ≡ false
