-- A rule at each number below a bound, by one computed test of them all. Assumes nothing.
use Prim.Native.Nat.{ℕ, ◌<◌}
use mathlib.Core.Path.{◌≡◌}
use mathlib.Core.Bool.{Bool, true, not}
use mathlib.Core.Option.{none}
use lib.Dec.{eqb}
use borrow.Author.Tests.{eqb-true, not-false}
use Rattle.format.specs.Refusal.{lowest}
use Rattle.format.proofs.RefusalLaws.{lowest_none}

-- no number is the lowest at which it fails
pub passed : (f : ℕ → Bool) (n : ℕ) → lowest (λ (k : ℕ). not (f k)) n ≡ none → (k : ℕ) → k < n → f k ≡ true
passed f n e k h = not-false (f k) (lowest_none (λ (k : ℕ). not (f k)) n e k h)

-- the same of an equation
pub equated : (f g : ℕ → ℕ) (n : ℕ) → lowest (λ (k : ℕ). not (eqb (f k) (g k))) n ≡ none → (k : ℕ) → k < n → f k ≡ g k
equated f g n e k h = eqb-true (f k) (g k) (passed (λ (k : ℕ). eqb (f k) (g k)) n e k h)
