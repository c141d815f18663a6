-- One byte more: of what every byte passes, of the picks of a text, of a number, of a line of digits. Assumes nothing.
use Prim.Native.Nat.{ℕ, suc, ◌≤◌, ◌<◌}
use native.Mathlib.Omega.{arith}
use mathlib.Core.Path.{◌≡◌, refl, sym, ap, ◌∙◌}
use mathlib.Core.Bool.{Bool, true, false, ◌&&◌}
use mathlib.Core.List.{List, [], ◌∷◌, ◌++◌, append-nil, append_assoc}
use lib.Dec.{leb}
use lib.ListN.{length, get_or, take}
use lib.Seq.{take-suc}
use borrow.Author.Tests.{leb-true}
use Rattle.std.specs.List.{list_all}
use Rattle.text_inputs.specs.Schedules.{every, is_digit, pick_of, digit_picks, digit_of, digits_of}
use Rattle.text_inputs.specs.Numerals.{with_digit, number_from}

-- ---- every byte

pub all_every : (f : ℕ → Bool) (xs : List ℕ) → list_all f xs ≡ every f xs
unfolding every
all_every f [] = refl
all_every f (x ∷ xs) = ap (λ (b : Bool). f x && b) (all_every f xs)

-- ---- the picks of a text

picks_snoc : (xs : List ℕ) (c : ℕ) → digit_picks (xs ++ (c ∷ [])) ≡ digit_picks xs ++ pick_of c
unfolding digit_picks
picks_snoc [] c = append-nil (pick_of c)
picks_snoc (x ∷ xs) c = ap (λ (l : List ℕ). pick_of x ++ l) (picks_snoc xs c) ∙ sym (append_assoc (pick_of x) (digit_picks xs) (pick_of c))

pub picks_more : (l : List ℕ) (i : ℕ) → i < length l → digit_picks (take i l) ++ pick_of (get_or l i 0) ≡ digit_picks (take (suc i) l)
picks_more l i h = sym (ap digit_picks (take-suc l i 0 h) ∙ picks_snoc (take i l) (get_or l i 0))

-- a byte has one pick at most
one_by : (c : ℕ) (b : Bool) → is_digit c ≡ b → length (pick_of c) ≤ 1
unfolding pick_of
one_by c true e = simp e (omega arith)
one_by c false e = simp e (omega arith)

pub one_pick : (c : ℕ) → length (pick_of c) ≤ 1
one_pick c = one_by c (is_digit c) refl

-- a digit is 48 at least
least_by : (c : ℕ) (b : Bool) → leb 48 c ≡ b → b && leb c 57 ≡ true → 48 ≤ c
least_by c true e h = leb-true 48 c e
least_by c false e h = absurd (let y : ◌≡◌ {A = ℕ} 0 1 = cc in omega arith)

pub digit_least : (c : ℕ) → is_digit c ≡ true → 48 ≤ c
unfolding is_digit
digit_least c h = least_by c (leb 48 c) refl h

-- ---- a number

pub number_snoc : (v : ℕ) (xs : List ℕ) (c : ℕ) → number_from v (xs ++ (c ∷ [])) ≡ with_digit (number_from v xs) c
unfolding number_from
number_snoc v [] c = refl
number_snoc v (x ∷ xs) c = number_snoc (with_digit v x) xs c

pub number_more : (l : List ℕ) (i : ℕ) → i < length l → number_from 0 (take (suc i) l) ≡ with_digit (number_from 0 (take i l)) (get_or l i 0)
number_more l i h = rw (take-suc l i 0) (number_snoc 0 (take i l) (get_or l i 0))

-- ---- a line of digits

digits_snoc : (xs : List ℕ) (c : ℕ) → digits_of (xs ++ (c ∷ [])) ≡ digits_of xs ++ (digit_of c ∷ [])
unfolding digits_of
digits_snoc [] c = refl
digits_snoc (x ∷ xs) c = ap (λ (l : List ℕ). digit_of x ∷ l) (digits_snoc xs c)

pub digits_more : (l : List ℕ) (i : ℕ) → i < length l → digits_of (take i l) ++ (digit_of (get_or l i 0) ∷ []) ≡ digits_of (take (suc i) l)
digits_more l i h = sym (ap digits_of (take-suc l i 0 h) ∙ digits_snoc (take i l) (get_or l i 0))

pub length_digits : (xs : List ℕ) → length (digits_of xs) ≡ length xs
unfolding digits_of
length_digits [] = refl
length_digits (x ∷ xs) = ap suc (length_digits xs)
