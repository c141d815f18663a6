-- `all_bound`: as long as the answer is true, the slot of every variable so far is in its scope.
use mathlib.Core.Path.{◌≡◌}
use mathlib.Core.Bool.{true}
use Prim.Native.Nat.{ℕ, ◌<◌}
use Rattle.plan_scopes.proofs.Closing.{Seen}
use Rattle.plan_scopes.proofs.all_bound.Given as goal

abbrev pub invariant-loop-term : goal.invariant-loop-term
invariant-loop-term l = l.all ≡ true → (k : ℕ) → k < l.term → Seen l.words l.scopes k
