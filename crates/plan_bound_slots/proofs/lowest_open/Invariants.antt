-- `lowest_open`: the trees of the array are the plan's, and the parameters of a procedure are the first slots.
use mathlib.Core.Path.{◌≡◌}
use Prim.Native.Nat.{ℕ, ◌<◌}
use mathlib.Core.Bool.{false}
use Rattle.plan_packed.specs.Refusals.{uses_unbound_slot}
use Rattle.plan_bound_slots.proofs.lowest_open.Given as goal

abbrev pub invariant-loop-procedure : goal.invariant-loop-procedure
invariant-loop-procedure l = (k : ℕ) → k < l.procedure → uses_unbound_slot l.plan k ≡ false
