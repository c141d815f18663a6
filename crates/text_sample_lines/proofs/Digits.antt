-- The decimal digits of numbers below 10,000 and of their thousandfold, and how many there are. Assumes nothing.
use Prim.Native.Nat.{ℕ, suc, ◌+◌, ◌*◌, ◌/◌, ◌%◌, ◌<◌, ◌≤◌}
use native.Mathlib.Omega.{arith}
use mathlib.Core.Path.{◌≡◌, refl, sym, ap, ap₂, ◌∙◌}
use mathlib.Core.List.{List, [], ◌∷◌, ◌++◌, append_assoc}
use lib.ListN.{length, length-append}
use Rattle.text.specs.Text.{decimal}
use Rattle.text.proofs.Decimals.{decimal_digit, decimal_more}
use Rattle.text_sample_lines.specs.Inner.LineEnds.{last_digit}

-- ---- the digits

pub one_digit : (n : ℕ) → n < 10 → last_digit n ≡ decimal n
one_digit n h = ap (λ (k : ℕ). (48 + k) ∷ []) (let e : n % 10 ≡ n = omega arith in e) ∙ sym (decimal_digit n h)

pub two_digits : (n : ℕ) → 10 ≤ n → n < 100 → last_digit (n / 10) ++ last_digit n ≡ decimal n
two_digits n h k = ap (λ (l : List ℕ). l ++ last_digit n) (one_digit (n / 10) (omega arith)) ∙ sym (decimal_more n h)

-- ten times a number
tenfold : (n : ℕ) → 0 < n → decimal (n * 10) ≡ decimal n ++ (48 ∷ [])
tenfold n h =
    decimal_more (n * 10) (omega arith)
    ∙ ap₂ (λ (a b : ℕ). decimal a ++ ((48 + b) ∷ [])) (let e : n * 10 / 10 ≡ n = omega arith in e) (let e : n * 10 % 10 ≡ 0 = omega arith in e)

pub thousandfold : (n : ℕ) → 0 < n → decimal n ++ (48 ∷ 48 ∷ 48 ∷ []) ≡ decimal (n * 1000)
thousandfold n h =
    sym (ap decimal (let e : n * 1000 ≡ n * 10 * 10 * 10 = omega arith in e)
    ∙ tenfold (n * 10 * 10) (omega arith)
    ∙ ap (λ (l : List ℕ). l ++ (48 ∷ [])) (tenfold (n * 10) (omega arith) ∙ ap (λ (l : List ℕ). l ++ (48 ∷ [])) (tenfold n h))
    ∙ simp append_assoc)

-- ---- how many

pub more_length : (n : ℕ) → 10 ≤ n → length (decimal n) ≡ suc (length (decimal (n / 10)))
more_length n h = omega (arith, ap length (decimal_more n h), length-append (decimal (n / 10)) ((48 + n % 10) ∷ []))

pub one_length : (n : ℕ) → n < 10 → length (decimal n) ≡ 1
one_length n h = ap length (decimal_digit n h)

pub thousand_length : (n : ℕ) → 0 < n → length (decimal (n * 1000)) ≡ length (decimal n) + 3
thousand_length n h = omega (arith, ap length (thousandfold n h), length-append (decimal n) (48 ∷ 48 ∷ 48 ∷ []))
