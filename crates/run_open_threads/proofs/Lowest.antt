-- The lowest thread that passes a test. Assumes nothing.
use Prim.Native.Nat.{ℕ, ◌+◌, ◌≤◌, ◌<◌}
use native.Mathlib.Decide.{ℕ_discrete}
use native.Mathlib.Omega.{arith}
use mathlib.Core.Path.{◌≡◌, sym, ap, ◌∙◌}
use mathlib.Core.Bool.{Bool, false}
use Rattle.run_open_threads.specs.Inner.Open.{LowestFrom}

-- of a test that says the same of every thread
pub lowest_ext : (f h : ℕ → Bool) (from r : ℕ) → ((k : ℕ) → k < 8 → f k ≡ h k) → LowestFrom f from r → LowestFrom h from r
lowest_ext f h from r e l =
    let w = l.within in
    record { within = w; reached = l.reached; here = λ b. sym (e r b) ∙ l.here b; before = λ k a b. sym (e k (omega arith)) ∙ l.before k a b }

-- one thread more that does not pass
pub none_more : (f : ℕ → Bool) (from i : ℕ) → ((k : ℕ) → from ≤ k → k < i → f k ≡ false) → f i ≡ false → (k : ℕ) → from ≤ k → k < i + 1 → f k ≡ false
none_more f from i h e k a b = by (ℕ_discrete k i)
  where
    by : Dec (k ≡ i) → f k ≡ false
    by (yes d) = ap f d ∙ e
    by (no d) = h k a (omega (arith, b, d))
