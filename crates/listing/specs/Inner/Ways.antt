-- Ways down a tree: schedules each of whose picks can follow the picks before it. What can follow is any test. For inner contracts; no reader of the entries'
-- promise needs it. Assumes nothing.
use Rattle.std.specs.Prelude.{ℕ, ◌≤◌, ◌<◌, ◌≡◌, Bool, true, false, List, ◌⊎◌, length, get_or, take}

module _ (can : List ℕ → ℕ → Bool) where
  -- each pick is of one of eight threads, and can follow the picks before it
  pub record Way (ps : List ℕ) : Type 0 where
    pub of_eight : (i : ℕ) → i < length ps → get_or ps i 0 < 8
    pub follows : (i : ℕ) → i < length ps → can (take i ps) (get_or ps i 0) ≡ true

  -- a way of at most n picks that cannot be extended
  pub record Complete (n : ℕ) (ps : List ℕ) : Type 0 where
    pub way : Way ps
    pub at_most : length ps ≤ n
    pub ends : (length ps ≡ n) ⊎ ((p : ℕ) → p < 8 → can ps p ≡ false)
