-- `all_once`: as long as the answer is true, every term so far is counted once.
use mathlib.Core.Path.{◌≡◌}
use mathlib.Core.Bool.{true, false}
use Prim.Native.Nat.{ℕ, ◌<◌}
use Rattle.plan_packed.specs.Inner.Steps.{not_once}
use Rattle.plan_naming.proofs.all_once.Given as goal

abbrev pub invariant-loop-named : goal.invariant-loop-named
invariant-loop-named l = l.once ≡ true → (k : ℕ) → k < l.named-index → not_once l.times k ≡ false
