-- A loop over the places below a bound: what its turns make of what it changes. Assumes nothing.
use Prim.Native.Nat.{ℕ, zero, suc, ◌+◌, ◌-◌, ◌<◌}
use native.Mathlib.Omega.{arith}
use mathlib.Core.Path.{◌≡◌}

module _ {A : Type 0} (turn : ℕ → A → A) where
  -- the next turns, as many as are left
  unfoldable pub turns : ℕ → ℕ → A → A
  turns zero i x = x
  turns (suc left) i x = turns left (i + 1) (turn i x)

  pub one_turn : (n i : ℕ) (x : A) → i < n → turns (n - i) i x ≡ turns (n - (i + 1)) (i + 1) (turn i x)
  unfolding turns
  one_turn n i x h = let q : n - i ≡ suc (n - (i + 1)) = omega arith in rw q

  pub no_turn : (n i : ℕ) (x : A) → n - i ≡ 0 → turns (n - i) i x ≡ x
  unfolding turns
  no_turn n i x q = rw q
