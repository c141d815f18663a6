-- What the program writes as digits is read back: a schedule's line as the schedule, a number's digits as the number. Assumes nothing.
use Prim.Native.Nat.{ℕ, zero, suc, ◌+◌, ◌-◌, ◌*◌, ◌/◌, ◌%◌, ◌≤◌, ◌<◌}
use native.Mathlib.Omega.{arith}
use mathlib.Core.Path.{◌≡◌, refl, ap, ◌∙◌}
use mathlib.Core.Bool.{Bool, true, false}
use mathlib.Core.List.{List, [], ◌∷◌}
use lib.Dec.{ltb}
use lib.ListN.{get_or}
use borrow.Author.Tests.{lt-ltb, le-leb, ltb-true, ltb-false}
use Rattle.text.specs.Text.{decimal}
use Rattle.text.proofs.Decimals.{decimal_digit, decimal_more}
use Rattle.plan_notation.specs.Lexing.{is_blank}
use Rattle.text_inputs.specs.Schedules.{every, is_digit, is_digits, pick_of, digit_picks, picks_of, digit_of, digits_of, digit_line}
use Rattle.text_inputs.specs.Numerals.{with_digit, number_from, number_of}
use Rattle.text_inputs.proofs.Bytes.{number_snoc}

-- ---- a schedule

digit_is : (p : ℕ) → p < 10 → digit_of p ≡ 48 + p
unfolding digit_of
digit_is p h = simp (lt-ltb p 10 h)

digit_passes : (p : ℕ) → p < 10 → is_digit (digit_of p) ≡ true
unfolding is_digit
digit_passes p h = rw (digit_is p h) (simp (le-leb 48 (48 + p) (omega arith), le-leb (48 + p) 57 (omega arith)))

-- every pick has a digit
abbrev pub Digits : List ℕ → Type 0
Digits ps = (k : ℕ) → get_or ps k 0 < 10

line_is_digits : (ps : List ℕ) → Digits ps → is_digits (digit_line ps) ≡ true
unfolding is_digits every digit_line digits_of is_digit is_blank
line_is_digits [] h = refl
line_is_digits (p ∷ ps) h = simp (digit_passes p (h 0)) (line_is_digits ps (λ k. h (suc k)))

line_picks : (ps : List ℕ) → Digits ps → digit_picks (digit_line ps) ≡ ps
unfolding digit_picks digit_line digits_of pick_of
line_picks [] h = refl
line_picks (p ∷ ps) h =
    simp (digit_passes p (h 0)) (rw (line_picks ps (λ k. h (suc k))) (ap (λ (n : ℕ). n ∷ ps) (ap (λ (n : ℕ). n - 48) (digit_is p (h 0)) ∙ omega arith)))

pub line_read : (ps : List ℕ) → Digits ps → picks_of (digit_line ps) ≡ ps
unfolding picks_of
line_read ps h = simp (line_is_digits ps h) (line_picks ps h)

-- ---- a number

with_digit_is : (v d : ℕ) → v < 100000 → with_digit v (48 + d) ≡ v * 10 + d
unfolding with_digit
with_digit_is v d h = simp (lt-ltb v 100000 h) (omega arith)

number_by : (n : ℕ) (small : Bool) → ltb n 10 ≡ small → n < 1000000 → (10 ≤ n → number_from 0 (decimal (n / 10)) ≡ n / 10) → number_from 0 (decimal n) ≡ n
unfolding number_from
number_by n true e h rest = ap (number_from 0) (decimal_digit n (ltb-true n 10 e)) ∙ with_digit_is 0 n (omega arith) ∙ omega arith
number_by n false e h rest =
    let g = ltb-false n 10 e in
    ap (number_from 0) (decimal_more n g)
    ∙ number_snoc 0 (decimal (n / 10)) (48 + n % 10)
    ∙ ap (λ (v : ℕ). with_digit v (48 + n % 10)) (rest g)
    ∙ with_digit_is (n / 10) (n % 10) (omega arith)
    ∙ omega arith

number_back : (k n : ℕ) → n < k → n < 1000000 → number_from 0 (decimal n) ≡ n
number_back zero n h g = absurd (omega arith)
number_back (suc k) n h g = number_by n (ltb n 10) refl g (λ t. number_back k (n / 10) (omega arith) (omega arith))

pub number_read : (n : ℕ) → n < 1000000 → number_of (decimal n) ≡ n
unfolding number_of
number_read n h = number_back (suc n) n (omega arith) h
