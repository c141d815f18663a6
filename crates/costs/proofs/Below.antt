-- Tests of the numbers below n: whether some pass, and how many. Assumes nothing.
use Prim.Native.Nat.{ℕ, zero, suc, ◌+◌, ◌≤◌, ◌<◌}
use native.Mathlib.Decide.{ℕ_discrete}
use native.Mathlib.Omega.{arith}
use mathlib.Core.Path.{◌≡◌, refl, sym, ap, ap₂, ◌∙◌}
use mathlib.Core.Bool.{Bool, true, false, cond, ◌&&◌, ◌||◌, true≢false}
use mathlib.Core.Logic.{◌⊎◌, inl, inr}
use lib.Dec.{eqb}
use borrow.Author.Tests.{eq-eqb, ne_eqb}
use Rattle.plan_packed.specs.Refusals.{any_below, sum_below, one_if}

-- ---- bools

pub either : (x y : Bool) → (x || y) ≡ true → (x ≡ true) ⊎ (y ≡ true)
either true y h = inl refl
either false y h = inr h

pub both : (x y : Bool) → (x && y) ≡ true → (x ≡ true) × (y ≡ true)
both true y h = (refl, h)
both false y h = absurd (true≢false (sym h))

-- what is true cannot be shown false
pub by_true : (x : Bool) → (x ≡ true → ⊥) → x ≡ false
by_true true h = absurd (h refl)
by_true false h = refl

-- ---- some number below n

pub any_found : (n : ℕ) (f : ℕ → Bool) → any_below n f ≡ true → (k : ℕ) × (k < n) × (f k ≡ true)
unfolding any_below
any_found zero f h = absurd (true≢false (sym h))
any_found (suc n) f h = go (λ e. any_found n f e) (either (any_below n f) (f n) h)
  where
    go : (any_below n f ≡ true → (k : ℕ) × (k < n) × (f k ≡ true)) → (any_below n f ≡ true) ⊎ (f n ≡ true) → (k : ℕ) × (k < suc n) × (f k ≡ true)
    go i (inl e) = let a = i e in (a.0, (let h = a.1 in omega arith), a.2)
    go i (inr e) = (n, omega arith, e)

pub any_true : (n : ℕ) (f : ℕ → Bool) (k : ℕ) → k < n → f k ≡ true → any_below n f ≡ true
unfolding any_below
any_true zero f k h e = absurd (omega arith)
any_true (suc n) f k h e = go (λ b. any_true n f k b e) (ℕ_discrete k n)
  where
    last : (x y : Bool) → y ≡ true → (x || y) ≡ true
    last true y h = refl
    last false y h = h

    go : (k < n → any_below n f ≡ true) → Dec (k ≡ n) → (any_below n f || f n) ≡ true
    go i (yes q) = last (any_below n f) (f n) (ap f (sym q) ∙ e)
    go i (no q) = ap (λ (x : Bool). x || f n) (i (omega (arith, q)))

pub any_same : (n : ℕ) (f h : ℕ → Bool) → ((k : ℕ) → k < n → f k ≡ h k) → any_below n f ≡ any_below n h
unfolding any_below
any_same zero f h e = refl
any_same (suc n) f h e = ap₂ ◌||◌ (any_same n f h (λ k b. e k (omega arith))) (e n (omega arith))

pub none_any : (n : ℕ) (f : ℕ → Bool) → ((k : ℕ) → k < n → f k ≡ false) → any_below n f ≡ false
none_any n f h = by_true (any_below n f) (λ e. let a = any_found n f e in true≢false (sym a.2 ∙ h a.0 a.1))

-- ---- how many numbers below n a test passes

-- the test without p
unfoldable pub minus : ℕ → (ℕ → Bool) → ℕ → Bool
minus p S x = cond (eqb x p) false (S x)

pub minus_other : (p : ℕ) (S : ℕ → Bool) (x : ℕ) → (x ≡ p → ⊥) → minus p S x ≡ S x
unfolding minus
minus_other p S x h = rw (ne_eqb x p h)

minus_same : (p : ℕ) (S : ℕ → Bool) → minus p S p ≡ false
unfolding minus
minus_same p S = rw (eq-eqb p p refl)

abbrev pub count : (ℕ → Bool) → ℕ → ℕ
count S n = sum_below n (λ x. one_if (S x))

at_most_one : (b : Bool) → one_if b ≤ 1
at_most_one true = omega arith
at_most_one false = omega arith

pub count_most : (S : ℕ → Bool) (n : ℕ) → count S n ≤ n
unfolding sum_below
count_most S zero = omega arith
count_most S (suc n) = omega (arith, count_most S n, at_most_one (S n))

-- the same below p
count_before : (p : ℕ) (S : ℕ → Bool) (n : ℕ) → n ≤ p → count (minus p S) n ≡ count S n
unfolding sum_below
count_before p S zero h = refl
count_before p S (suc n) h = rw (minus_other p S n (λ e. omega arith)) (let e = count_before p S n (omega arith) in omega arith)

pub count_minus : (p : ℕ) (S : ℕ → Bool) (n : ℕ) → p < n → S p ≡ true → suc (count (minus p S) n) ≡ count S n
unfolding sum_below
count_minus p S zero h e = absurd (omega arith)
count_minus p S (suc n) h e = go (λ b. count_minus p S n b e) (ℕ_discrete n p)
  where
    go : (p < n → suc (count (minus p S) n) ≡ count S n) → Dec (n ≡ p) → suc (count (minus p S) n + one_if (minus p S n)) ≡ count S n + one_if (S n)
    go i (yes q) = rw (q, minus_same p S, e) (let z = count_before p S p (omega arith) in omega arith)
    go i (no q) = rw (minus_other p S n q) (let z = i (omega (arith, q)) in omega arith)
