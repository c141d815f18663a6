-- What the bits of a plan say: the tests of the header and the procedures, and a term as its 40 bits. Assumes nothing.
use mathlib.Core.Path.{◌≡◌, refl, ap, sym, ◌∙◌}
use mathlib.Core.Bool.{Bool, true, false, ◌&&◌, ◌||◌, not}
use mathlib.Core.List.{List, [], ◌∷◌}
use Prim.Native.Nat.{ℕ, zero, suc, ◌+◌, ◌-◌, ◌*◌, ◌/◌, ◌%◌, ◌^◌, ◌≤◌, ◌<◌}
use native.Mathlib.Nat.{div-one, pow-suc}
use native.Mathlib.Omega.{arith}
use lib.Count.{ones, ones_step, ones-le}
use lib.Dec.{ltb, leb, eqb, T, leb→le}
use mir.Facts.{and_yes}
use lib.ListN.{length, get_or}
use Rattle.format.specs.Bits.{bits_at}
use Rattle.format.proofs.BitLaws.{bits_below, field_of, first_of}
use Rattle.plan_packed.specs.Format
use Rattle.plan_packed.specs.Format.{version, terms, parameters, root, header_spare, volatiles, mask_bit, fields_from, absent, width, Row, operands, table}
use Rattle.plan_packed.specs.Format.{layout, Term, laid_out, term_bit, tag_at, term_at}
use Rattle.plan_packed.specs.Inner.Operands.{tag_of, operand_in}
use Rattle.plan_packed.specs.Refusals.{wrong_header, wrong_procedure}
use Rattle.plan_packed.specs.Inner.Steps.{word_at, in_word, term_in}
use Rattle.plan_packed.proofs.Fields.{ones_of, fields_count}

-- ---- the header

pub procedures_lt : (b : List ℕ) → Format.procedures b < 64
unfolding Format.procedures
procedures_lt b = bits_below b 4 6

pub terms_lt : (b : List ℕ) → terms b < 4096
unfolding terms
terms_lt b = bits_below b 10 12

-- the tests of check 2, on the header's numbers
abbrev pub header_tests : ℕ → ℕ → ℕ → ℕ → ℕ → Bool
header_tests v p n s m = ltb 1 v || ltb p 1 || ltb 32 p || ltb n 1 || ltb 1024 n || not (eqb s 0) || not (eqb (mask_bit m 0) 1)

are_tests : (b : List ℕ) → wrong_header b ≡ header_tests (version b) (Format.procedures b) (terms b) (header_spare b) (volatiles b)
unfolding wrong_header
are_tests b = refl

pub header_tests_lem : (b : List ℕ) (v p n s m : ℕ) → v ≡ version b → p ≡ Format.procedures b → n ≡ terms b → s ≡ header_spare b → m ≡ volatiles b
    → wrong_header b ≡ header_tests v p n s m
header_tests_lem b v p n s m e f g h i = are_tests b ∙ rw (e, f, g, h, i)

-- the tests of check 3, on a procedure's numbers
procedure_are : (b : List ℕ) (p : ℕ) → wrong_procedure b p ≡ (ltb 8 (parameters b p) || (eqb p 0 && ltb 0 (parameters b p)) || leb (terms b) (root b p))
unfolding wrong_procedure
procedure_are b p = refl

pub procedure_tests : (b : List ℕ) (p k n r : ℕ) → k ≡ parameters b p → n ≡ terms b → r ≡ root b p
    → wrong_procedure b p ≡ (ltb 8 k || (eqb p 0 && ltb 0 k) || leb n r)
procedure_tests b p k n r e f g = procedure_are b p ∙ rw (e, f, g)

-- ---- a mask of fields

ones_are : (k v : ℕ) → v < 2 ^ k → ones v ≡ ones_of k v
unfolding ones_of
ones_are zero v h = let z = ones-le 0 v h in omega arith
ones_are (suc k) v h =
    let q : v / 2 < 2 ^ k = let p = rw pow-suc at h in omega arith in
    ones_step v ∙ ap (λ (n : ℕ). v % 2 + n) (ones_are k (v / 2) q)

-- the language's own count of ones is the count of fields
pub fields_are : (v : ℕ) → v < 4294967296 → ltb 8 (ones v) ≡ ltb 8 (length (fields_from v 0 32))
fields_are v h = ap (ltb 8) (ones_are 32 v h ∙ sym (fields_count v))

pub no_monitor_bit : (v : ℕ) → v < 2147483648 → eqb (mask_bit v 0) 1 ≡ false
unfolding mask_bit
no_monitor_bit v h = let e : v / 2147483648 % 2 ≡ 0 = omega arith in simp e

pub monitor_bit : (v : ℕ) → 2147483648 ≤ v → v < 4294967296 → eqb (mask_bit v 0) 1 ≡ true
unfolding mask_bit
monitor_bit v g h = let e : v / 2147483648 % 2 ≡ 1 = omega arith in simp e

-- ---- a term as its 40 bits

-- the operands of every row fit the 35 bits after the tag: one test over all rows
abbrev pub total : Row → ℕ
total r = width r.first + width r.second + width r.third

rows_fit : List Row → Bool
rows_fit [] = true
rows_fit (r ∷ rs) = leb (total r) 35 && rows_fit rs

rows_fit_lem : (rs : List Row) (d : Row) (k : ℕ) → T (leb (total d) 35) → T (rows_fit rs) → total (get_or rs k d) ≤ 35
unfolding rows_fit
rows_fit_lem [] d k h f = leb→le _ _ h
rows_fit_lem (r ∷ rs) d zero h f = leb→le _ _ (and_yes (leb (total r) 35) (rows_fit rs) f).0
rows_fit_lem (r ∷ rs) d (suc k) h f = rows_fit_lem rs d k h (and_yes (leb (total r) 35) (rows_fit rs) f).1

pub fits : (k : ℕ) → total (layout k) ≤ 35
unfolding layout table rows_fit
fits k = rows_fit_lem table (operands absent absent absent) k tt tt

-- a bits from bit v on, of 40
part40 : (b : List ℕ) (i v a r : ℕ) → v + a + r ≡ 40 → bits_at b (i + v) a ≡ bits_at b i 40 / 2 ^ r % 2 ^ a
part40 b i v a r h = field_of b i v a r ∙ ap (λ (n : ℕ). bits_at b i n / 2 ^ r % 2 ^ a) h

back40 : (b : List ℕ) (i v a : ℕ) → v + a ≡ 40 → bits_at b (i + v) a ≡ bits_at b i 40 % 2 ^ a
back40 b i v a h = part40 b i v a 0 (omega arith) ∙ ap (λ (n : ℕ). n % 2 ^ a) (div-one (bits_at b i 40))

laid : (b : List ℕ) (i k : ℕ) (r : Row) → total r ≤ 35 → laid_out b i k r ≡ in_word (bits_at b i 40) k r
unfolding laid_out in_word
laid b i k r h =
    let a₁ = width r.first in
    let a₂ = width r.second in
    let a₃ = width r.third in
    let x : bits_at b (i + 5) a₁ ≡ bits_at b i 40 / 2 ^ (35 - (0 + a₁)) % 2 ^ a₁ = part40 b i 5 a₁ (35 - (0 + a₁)) (omega arith) in
    let y : bits_at b (i + (5 + a₁)) a₂ ≡ bits_at b i 40 / 2 ^ (35 - (a₁ + a₂)) % 2 ^ a₂ = part40 b i (5 + a₁) a₂ (35 - (a₁ + a₂)) (omega arith) in
    let z : bits_at b (i + (5 + a₁ + a₂)) a₃ ≡ bits_at b i 40 / 2 ^ (35 - (a₁ + a₂ + a₃)) % 2 ^ a₃ =
    part40 b i (5 + a₁ + a₂) a₃ (35 - (a₁ + a₂ + a₃)) (omega arith) in
    let s : bits_at b (i + (5 + a₁ + a₂ + a₃)) (35 - (a₁ + a₂ + a₃)) ≡ bits_at b i 40 % 2 ^ (35 - (a₁ + a₂ + a₃)) =
    back40 b i (5 + a₁ + a₂ + a₃) (35 - (a₁ + a₂ + a₃)) (omega arith) in
    rw (x, y, z, s)

pub word_is : (b : List ℕ) (procedures t w : ℕ) → procedures ≡ Format.procedures b → w ≡ bits_at b ((8 + 2 * procedures + 5 * t) * 8) 40 → w ≡ word_at b t
unfolding word_at term_bit
word_is b procedures t w e f = f ∙ rw e

pub tag_in_lem : (b : List ℕ) (t : ℕ) → tag_at b t ≡ tag_of (word_at b t)
unfolding tag_at word_at
tag_in_lem b t = first_of b (term_bit b t) 5 35

-- a term is what stands in its 40 bits
pub term_is : (b : List ℕ) (t : ℕ) → term_at b t ≡ term_in (word_at b t)
unfolding term_at term_in word_at
term_is b t =
    laid b (term_bit b t) (tag_at b t) (layout (tag_at b t)) (fits (tag_at b t)) ∙ ap (λ (k : ℕ). in_word (word_at b t) k (layout k)) (tag_in_lem b t)

-- the values of a term by its tag, of its 40 bits
module _ (b : List ℕ) (t w : ℕ) (e : w ≡ word_at b t) (k : ℕ) (key : tag_of w ≡ k) where
  pub tag_was : tag_at b t ≡ k
  tag_was = tag_in_lem b t ∙ ap tag_of (sym e) ∙ key

  abbrev row : Row
  row = layout k

  whole_was : in_word w k row ≡ term_at b t
  unfolding term_in
  whole_was = ap (λ (j : ℕ). in_word w j (layout j)) (sym key) ∙ ap term_in e ∙ sym (term_is b t)

  pub first_was : operand_in 0 row.first w ≡ (term_at b t).value₁
  unfolding in_word
  first_was = ap (λ (m : Term). m.value₁) whole_was

  pub second_was : operand_in (width row.first) row.second w ≡ (term_at b t).value₂
  unfolding in_word
  second_was = ap (λ (m : Term). m.value₂) whole_was

  pub third_was : operand_in (width row.first + width row.second) row.third w ≡ (term_at b t).value₃
  unfolding in_word
  third_was = ap (λ (m : Term). m.value₃) whole_was
