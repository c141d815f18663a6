-- The 40 bits of a term: they fit, and the term that stands in them is the one that was packed. Assumes nothing.
use Prim.Native.Nat.{ℕ, ◌+◌, ◌-◌, ◌*◌, ◌/◌, ◌%◌, ◌^◌, ◌≤◌, ◌<◌}
use native.Mathlib.Nat.{add-zero}
use native.Mathlib.Omega.{arith}
use mathlib.Core.Path.{◌≡◌, refl, sym, ap, ◌∙◌}
use lib.Arith.{digits_lt}
use lib.Pow.{pow-add, pow_pos, shl_lt, shl-shr, shr-shr, high, low}
use Rattle.plan_packed.specs.Format.{width, Row, layout}
use Rattle.plan_packed.specs.Inner.Operands.{tag_of, operand_in, spare_in}
use Rattle.plan_packed.specs.Inner.Steps.{in_word, term_in}
use Rattle.plan_packed.proofs.Reading.{total, fits}
use Rattle.plan_packed.proofs.Children.{term_of}
use Rattle.plan_written.specs.Terms.{word_by, word_of}

-- one more field of w bits fits w bits more
pub field_fits : (n x v w : ℕ) → n < 2 ^ v → x < 2 ^ w → n * 2 ^ w + x < 2 ^ (v + w)
field_fits n x v w h k = rw (pow-add 2 v w) (digits_lt h k)

-- ---- a tag and three operands, of a, b and c bits, and d spare bits

module _ (k x y z a b c d : ℕ) (hx : x < 2 ^ a) (hy : y < 2 ^ b) (hz : z < 2 ^ c) where
  abbrev two : ℕ
  two = k * 2 ^ a + x

  abbrev three : ℕ
  three = two * 2 ^ b + y

  abbrev four : ℕ
  four = three * 2 ^ c + z

  abbrev all : ℕ
  all = four * 2 ^ d

  rest_four : all / 2 ^ d ≡ four
  rest_four = shl-shr four d

  rest_three : all / 2 ^ (d + c) ≡ three
  rest_three = sym (shr-shr all d c) ∙ ap (λ (n : ℕ). n / 2 ^ c) rest_four ∙ high three c hz

  rest_two : all / 2 ^ (d + c + b) ≡ two
  rest_two = sym (shr-shr all (d + c) b) ∙ ap (λ (n : ℕ). n / 2 ^ b) rest_three ∙ high two b hy

  rest_one : all / 2 ^ (d + c + b + a) ≡ k
  rest_one = sym (shr-shr all (d + c + b) a) ∙ ap (λ (n : ℕ). n / 2 ^ a) rest_two ∙ high k a hx

  all_spare : all % 2 ^ d ≡ 0
  all_spare = ap (λ (n : ℕ). n % 2 ^ d) (sym (add-zero all)) ∙ low four d (pow_pos d)

  all_fits : (v : ℕ) → k < 2 ^ v → all < 2 ^ (v + a + b + c + d)
  all_fits v h = shl_lt (v + a + b + c) d (field_fits three z (v + a + b) c (field_fits two y (v + a) b (field_fits k x v a h hx) hy) hz)

-- ---- a term

-- its operands fit their widths
pub record Fitting (r : Row) (x y z : ℕ) : Type 0 where
  pub first_fits : x < 2 ^ width r.first
  pub second_fits : y < 2 ^ width r.second
  pub third_fits : z < 2 ^ width r.third

module _ (r : Row) (k x y z : ℕ) (f : Fitting r x y z) (room : total r ≤ 35) where
  abbrev a : ℕ
  a = width r.first

  abbrev b : ℕ
  b = width r.second

  abbrev c : ℕ
  c = width r.third

  abbrev d : ℕ
  d = 35 - (a + b + c)

  tag_in_lem : tag_of (word_by r k x y z) ≡ k
  unfolding word_by
  tag_in_lem = let e : d + c + b + a ≡ 35 = omega arith in rw e at (rest_one k x y z a b c d f.first_fits f.second_fits f.third_fits)

  first_in_lem : operand_in 0 r.first (word_by r k x y z) ≡ x
  unfolding word_by
  first_in_lem =
      let e : d + c + b ≡ 35 - (0 + a) = omega arith in
      ap (λ (n : ℕ). n % 2 ^ a) (rw e at (rest_two k x y z a b c d f.first_fits f.second_fits f.third_fits)) ∙ low k a f.first_fits

  second_in_lem : operand_in (width r.first) r.second (word_by r k x y z) ≡ y
  unfolding word_by
  second_in_lem =
      let e : d + c ≡ 35 - (a + b) = omega arith in
      ap (λ (n : ℕ). n % 2 ^ b) (rw e at (rest_three k x y z a b c d f.first_fits f.second_fits f.third_fits)) ∙ low (k * 2 ^ a + x) b f.second_fits

  third_in_lem : operand_in (width r.first + width r.second) r.third (word_by r k x y z) ≡ z
  unfolding word_by
  third_in_lem = ap (λ (n : ℕ). n % 2 ^ c) (rest_four k x y z a b c d f.first_fits f.second_fits f.third_fits)
      ∙ low ((k * 2 ^ a + x) * 2 ^ b + y) c f.third_fits

  spare_in_lem : spare_in (width r.first + width r.second + width r.third) (word_by r k x y z) ≡ 0
  unfolding word_by
  spare_in_lem = all_spare k x y z a b c d f.first_fits f.second_fits f.third_fits

  laid : in_word (word_by r k x y z) k r ≡ record {
    tag = k;
    first = r.first;
    value₁ = x;
    second = r.second;
    value₂ = y;
    third = r.third;
    value₃ = z;
    spare =
        0;
  }
  unfolding in_word
  laid = rw (first_in_lem, second_in_lem, third_in_lem, spare_in_lem)

  fits_in : k < 32 → word_by r k x y z < 2 ^ 40
  unfolding word_by
  fits_in h =
      let e : 5 + a + b + c + d ≡ 40 = omega arith in
      rw e at (all_fits k x y z a b c d f.first_fits f.second_fits f.third_fits 5 h)

module _ (k x y z : ℕ) (f : Fitting (layout k) x y z) where
  -- the term that stands in the 40 bits is the one that was packed
  pub term_in_word : term_in (word_of k x y z) ≡ term_of k x y z 0
  unfolding term_in word_of
  term_in_word =
      ap (λ (j : ℕ). in_word (word_of k x y z) j (layout j)) (tag_in_lem (layout k) k x y z f (fits k))
      ∙ laid (layout k) k x y z f (fits k)

  -- and they are 40
  pub word_fits : k < 32 → word_of k x y z < 2 ^ 40
  unfolding word_of
  word_fits h = fits_in (layout k) k x y z f (fits k) h
