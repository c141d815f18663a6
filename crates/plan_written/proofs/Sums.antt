-- Sums over the numbers below n. Assumes nothing.
use Prim.Native.Nat.{ℕ, zero, suc, ◌+◌, ◌*◌, ◌<◌}
use native.Mathlib.Nat.{mul-zero, mul-one, mul-add}
use native.Mathlib.Decide.{ℕ_discrete}
use native.Mathlib.Omega.{arith}
use mathlib.Core.Path.{◌≡◌, refl, sym, ap, ◌∙◌}
use mathlib.Core.Bool.{Bool, true, false, cond, ◌&&◌}
use lib.Dec.{eqb}
use borrow.Author.Tests.{eq-eqb, ne_eqb}
use Rattle.plan_packed.specs.Refusals.{sum_below, one_if}

pub sum_none : (f : ℕ → ℕ) → sum_below 0 f ≡ 0
unfolding sum_below
sum_none f = refl

pub sum_more : (n : ℕ) (f : ℕ → ℕ) → sum_below (suc n) f ≡ sum_below n f + f n
unfolding sum_below
sum_more n f = refl

pub sum_cong : (n : ℕ) (f g : ℕ → ℕ) → ((k : ℕ) → k < n → f k ≡ g k) → sum_below n f ≡ sum_below n g
unfolding sum_below
sum_cong zero f g h = refl
sum_cong (suc n) f g h = omega (arith, sum_cong n f g (λ k q. h k (omega arith)), h n (omega arith))

pub sum_zero : (n : ℕ) → sum_below n (λ k. 0) ≡ 0
unfolding sum_below
sum_zero zero = refl
sum_zero (suc n) = omega (arith, sum_zero n)

pub sum_one : (n : ℕ) → sum_below n (λ k. 1) ≡ n
unfolding sum_below
sum_one zero = refl
sum_one (suc n) = omega (arith, sum_one n)

pub sum_add : (n : ℕ) (f g : ℕ → ℕ) → sum_below n (λ k. f k + g k) ≡ sum_below n f + sum_below n g
unfolding sum_below
sum_add zero f g = refl
sum_add (suc n) f g = omega (arith, sum_add n f g)

pub sum_mul : (n x : ℕ) (f : ℕ → ℕ) → x * sum_below n f ≡ sum_below n (λ k. x * f k)
unfolding sum_below
sum_mul zero x f = mul-zero x
sum_mul (suc n) x f = omega (arith, mul-add x (sum_below n f) (f n), sum_mul n x f)

-- the first one apart
pub sum_first : (n : ℕ) (f : ℕ → ℕ) → sum_below (suc n) f ≡ f 0 + sum_below n (λ k. f (suc k))
unfolding sum_below
sum_first zero f = omega arith
sum_first (suc n) f = omega (arith, sum_first n f)

-- of a sum of sums, either may come first
pub sum_swap : (n m : ℕ) (f : ℕ → ℕ → ℕ) → sum_below n (λ i. sum_below m (λ j. f i j)) ≡ sum_below m (λ j. sum_below n (λ i. f i j))
unfolding sum_below
sum_swap zero m f = sym (sum_zero m)
sum_swap (suc n) m f =
    omega (arith, sum_swap n m f, sum_add m (λ j. sum_below n (λ i. f i j)) (λ j. f n j))

-- ---- the weight of the one number that is v

module _ (v : ℕ) (f : ℕ → ℕ) where
  sum_past : (n : ℕ) → (v < n → ⊥) → sum_below n (λ t. f t * one_if (eqb v t)) ≡ 0
  sum_past n q = sum_cong n _ (λ t. 0) (λ t l. rw (ne_eqb v t (λ e. q (omega arith))) (mul-zero (f t))) ∙ sum_zero n

  sum_here : (n : ℕ) → v < n → sum_below n (λ t. f t * one_if (eqb v t)) ≡ f v
  unfolding sum_below
  sum_here zero l = absurd (omega arith)
  sum_here (suc n) l = go (ℕ_discrete v n) (λ q. sum_here n q)
    where
      go : Dec (v ≡ n) → (v < n → sum_below n (λ t. f t * one_if (eqb v t)) ≡ f v) → sum_below n (λ t. f t * one_if (eqb v t)) + f n * one_if (eqb v n) ≡ f v
      go (yes e) i =
          let last : f n * one_if (eqb v n) ≡ f v = rw (eq-eqb v n e) (mul-one (f n) ∙ ap f (sym e)) in
          omega (arith, last, sum_past n (λ q. omega arith))
      go (no d) i =
          let last : f n * one_if (eqb v n) ≡ 0 = rw (ne_eqb v n d) (mul-zero (f n)) in
          omega (arith, last, i (omega (arith, d)))

  -- if the test passes
  pub sum_at : (n : ℕ) (x : Bool) → (x ≡ true → v < n) → sum_below n (λ t. f t * one_if (x && eqb v t)) ≡ cond x (f v) 0
  sum_at n false h = sum_cong n _ (λ t. 0) (λ t q. mul-zero (f t)) ∙ sum_zero n
  sum_at n true h = sum_here n (h refl)
