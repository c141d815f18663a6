-- `lowest_left`: by the bits, one after the other.
use mathlib.Core.Path.{◌≡◌}
use mathlib.Core.Bool.{false, not}
use Prim.Native.Nat.{ℕ, ◌<◌}
use Rattle.run_keys.specs.Keys.{holds}
use Rattle.bound.proofs.settling.lowest_left.Given as goal

abbrev pub invariant-loop-procedure : goal.invariant-loop-procedure
invariant-loop-procedure l = (k : ℕ) → k < l.procedure → not (holds l.done k) ≡ false
