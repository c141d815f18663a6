-- The decimal digits of a number: the last digit behind those of the tenth part, and how many there are. Assumes nothing.
use Prim.Native.Nat.{ℕ, zero, suc, ◌+◌, ◌/◌, ◌%◌, ◌^◌, ◌<◌, ◌≤◌}
use native.Mathlib.Nat.{pow-suc, div-lt_iff_lt-mul}
use native.Mathlib.Omega.{arith}
use mathlib.Core.Path.{◌≡◌, refl, sym, ap}
use mathlib.Core.Bool.{Bool, true, false}
use mathlib.Core.List.{List, [], ◌∷◌, ◌++◌}
use lib.Dec.{ltb}
use lib.ListN.{length, length-append}
use borrow.Author.Tests.{ltb-true, ltb-false, lt-ltb, le-ltb}
use Rattle.text.specs.Text.{decimal_by, decimal}

-- steps that are enough are as good as any more
steps_by : (k m n : ℕ) (small : Bool) → ltb n 10 ≡ small → (10 ≤ n → decimal_by k (n / 10) ≡ decimal_by m (n / 10)) → decimal_by (suc k) n ≡ decimal_by (suc m) n
unfolding decimal_by
steps_by k m n true e rest = simp e
steps_by k m n false e rest = simp (e, rest (ltb-false n 10 e))

steps_enough : (k m n : ℕ) → n < k → n < m → decimal_by k n ≡ decimal_by m n
steps_enough zero m n h g = absurd (omega arith)
steps_enough (suc k) zero n h g = absurd (omega arith)
steps_enough (suc k) (suc m) n h g = steps_by k m n (ltb n 10) refl (λ t. steps_enough k m (n / 10) (omega arith) (omega arith))

pub decimal_digit : (n : ℕ) → n < 10 → decimal n ≡ (48 + n) ∷ []
unfolding decimal decimal_by
decimal_digit n h = simp (lt-ltb n 10 h)

pub decimal_more : (n : ℕ) → 10 ≤ n → decimal n ≡ decimal (n / 10) ++ ((48 + n % 10) ∷ [])
unfolding decimal decimal_by
decimal_more n h = simp (le-ltb n 10 h) (ap (λ (l : List ℕ). l ++ ((48 + n % 10) ∷ [])) (steps_enough n (suc (n / 10)) (n / 10) (omega arith) (omega arith)))

-- a number below 10 to the k-th has at most k digits
digits_by : (k n : ℕ) (small : Bool) → ltb n 10 ≡ small → n < 10 ^ suc (suc k) → length (decimal (n / 10)) ≤ suc k → length (decimal n) ≤ suc (suc k)
digits_by k n true e h g = omega (arith, ap length (decimal_digit n (ltb-true n 10 e)))
digits_by k n false e h g =
    omega (arith, g, ap length (decimal_more n (ltb-false n 10 e)), length-append (decimal (n / 10)) ((48 + n % 10) ∷ []))

pub few_digits : (k n : ℕ) → n < 10 ^ suc k → length (decimal n) ≤ suc k
few_digits zero n h = omega (arith, ap length (decimal_digit n h))
few_digits (suc k) n h =
    digits_by k n (ltb n 10) refl h
    (few_digits k (n / 10) ((div-lt_iff_lt-mul {k = 10} {x = n} {y = 10 ^ suc k} (omega arith)).1 (rw (sym (pow-suc 10 (suc k))) h)))
