-- `lowest_wrong_procedure`: the procedures so far are right.
use mathlib.Core.Bool.{false}
use mathlib.Core.Path.{◌≡◌}
use Prim.Native.Nat.{ℕ, ◌<◌}
use Rattle.plan_packed.specs.Refusals.{wrong_procedure}
use Rattle.plan_header.proofs.lowest_wrong_procedure.Given as goal

abbrev pub invariant-loop-procedure : goal.invariant-loop-procedure
invariant-loop-procedure l = (k : ℕ) → k < l.procedure → wrong_procedure l.plan k ≡ false
