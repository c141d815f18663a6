-- The lowest number at which a test passes, for inner contracts: no reader of an entry's promise needs it. Assumes nothing.
use Rattle.std.specs.Prelude.{ℕ, ◌≤◌, ◌<◌, ◌≡◌, Bool, true, false}

-- r is the lowest of the numbers below n at which the test passes, or n
pub record Lowest (f : ℕ → Bool) (n r : ℕ) : Type 0 where
  pub within : r ≤ n
  pub here : r < n → f r ≡ true
  pub before : (k : ℕ) → k < r → f k ≡ false
