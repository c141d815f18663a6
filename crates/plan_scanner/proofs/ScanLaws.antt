-- The tokens of a text from a byte on, by the byte's class. Assumes nothing.
use Prim.Native.Nat.{ℕ, ◌+◌, ◌≤◌, ◌<◌}
use native.Mathlib.Omega.{arith}
use native.Mathlib.Numerals.{add-one}
use native.Mathlib.Decide.{dec_le}
use mathlib.Core.Path.{◌≡◌, refl, ap, sym, ◌∙◌}
use mathlib.Core.Bool.{Bool, true, cond}
use mathlib.Core.List.{List, [], ◌∷◌, ◌++◌}
use lib.Dec.{ltb}
use lib.ListN.{length, get_or, drop_of_length-le, get_or-eq_default}
use lib.Seq.{drop-cons}
use borrow.Author.Tests.{lt-ltb, le-ltb, eq-eqb, ne_eqb}
use Rattle.plan_notation.specs.Tokens.{becomes, unknown, text_end}
use Rattle.plan_notation.specs.Lexing.{Token, token, Begun, nothing, comment, name, colon, digit_of, grown, name_of}
use Rattle.plan_notation.specs.Lexing.{begins, alone, begun_after, ended_by, ended_at_end, tokens_from}
use Rattle.plan_scanner.specs.Inner.Classes.{class_of, Scanned}
use Rattle.plan_scanner.specs.Inner.Extents.{onward}
use Rattle.plan_scanner.proofs.ClassLaws.{is_digit_lem, the_digit, the_colon, begins_by, alone_by, begins_by_lem, alone_by_lem}

-- past the last byte
pub no_byte : (text : List ℕ) (i : ℕ) (b : Begun) → length text ≤ i → onward b text i ≡ ended_at_end b ++ (token text_end i ∷ [])
unfolding tokens_from
no_byte text i b h = ap (tokens_from b i) (drop_of_length-le text h)

-- a comment and a name end with the text
pub comment_last : (text : List ℕ) (i : ℕ) → length text ≤ i → onward comment text i ≡ onward nothing text i
unfolding ended_at_end
comment_last text i h = no_byte text i comment h ∙ sym (no_byte text i nothing h)

pub name_last : (text : List ℕ) (i : ℕ) → length text ≤ i → (s v : ℕ) → onward (name s v) text i ≡ token (name_of v) s ∷ onward nothing text i
unfolding ended_at_end
name_last text i h s v = no_byte text i (name s v) h ∙ ap (λ (ts : List Token). token (name_of v) s ∷ ts) (sym (no_byte text i nothing h))

colon_last : (text : List ℕ) (i : ℕ) → length text ≤ i → (s : ℕ) → onward (colon s) text i ≡ token unknown s ∷ onward nothing text i
unfolding ended_at_end
colon_last text i h s = no_byte text i (colon s) h ∙ ap (λ (ts : List Token). token unknown s ∷ ts) (sym (no_byte text i nothing h))

module _ (text : List ℕ) (i : ℕ) (h : i < length text) where
  abbrev byte : ℕ
  byte = get_or text i 0

  one_byte : (b : Begun) → onward b text i ≡ ended_by b i byte ++ onward (begun_after b i byte) text (i + 1)
  unfolding tokens_from
  one_byte b = ap (tokens_from b i) (drop-cons text i 0 h) ∙ rw add-one refl

  -- a comment ends before the end of its line, which is a blank
  pub comment_on : (byte ≡ 10 → ⊥) → onward comment text i ≡ onward comment text (i + 1)
  unfolding ended_by begun_after
  comment_on n = one_byte comment ∙ simp (ne_eqb byte 10 n)

  line_end : byte ≡ 10 → onward nothing text i ≡ onward nothing text (i + 1)
  unfolding ended_by begun_after alone begins
  line_end e = one_byte nothing ∙ ap (λ (c : ℕ). alone i c ++ onward (begins i c) text (i + 1)) e

  pub comment_over : byte ≡ 10 → onward comment text i ≡ onward nothing text i
  unfolding ended_by begun_after
  comment_over e = one_byte comment ∙ simp (eq-eqb byte 10 e) (sym (line_end e))

  -- behind a colon
  colon_pair : (s : ℕ) → byte ≡ 61 → onward (colon s) text i ≡ token becomes s ∷ onward nothing text (i + 1)
  unfolding ended_by begun_after
  colon_pair s e = one_byte (colon s) ∙ simp (eq-eqb byte 61 e)

  colon_other : (s : ℕ) → (byte ≡ 61 → ⊥) → onward (colon s) text i ≡ token unknown s ∷ onward nothing text i
  unfolding ended_by begun_after
  colon_other s n =
      one_byte (colon s)
      ∙ ap
      (λ (b : Bool). cond b (token becomes s ∷ []) (token unknown s ∷ alone i byte) ++ onward (cond b nothing (begins i byte)) text (i + 1))
      (ne_eqb byte 61 n)
      ∙ ap (λ (ts : List Token). token unknown s ∷ ts) (sym (one_byte nothing))

-- where `=` is behind a byte, it is within the text
pub pair_inside : (text : List ℕ) (i : ℕ) → get_or text (i + 1) 0 ≡ 61 → i + 2 ≤ length text
pair_inside text i q = by (dec_le (length text) (i + 1))
  where
    by : Dec (length text ≤ i + 1) → i + 2 ≤ length text
    by (yes z) = absurd (omega (arith, q, get_or-eq_default text 0 z))
    by (no z) = omega (arith, z)

-- byte i, of class k
module _ {text : List ℕ} {i k : ℕ} (s : Scanned text i k) where
  abbrev at : ℕ
  at = get_or text i 0

  at_byte : (b : Begun) → onward b text i ≡ ended_by b i at ++ onward (begun_after b i at) text (i + 1)
  at_byte b = one_byte text i s.inside b

  class_below : k < 37 → ltb (class_of at) 37 ≡ true
  class_below g = ap (λ (x : ℕ). ltb x 37) (sym s.class) ∙ lt-ltb k 37 g

  -- within a name
  pub longer : k < 37 → (p v : ℕ) → onward (name p v) text i ≡ onward (name p (grown v k)) text (i + 1)
  unfolding ended_by begun_after
  longer g p v =
      at_byte (name p v)
      ∙ simp (is_digit_lem at s.byte ∙ class_below g)
      (ap (λ (x : ℕ). onward (name p (grown v x)) text (i + 1)) (the_digit at s.byte (class_below g) ∙ sym s.class))

  pub name_over : 37 ≤ k → (p v : ℕ) → onward (name p v) text i ≡ token (name_of v) p ∷ onward nothing text i
  unfolding ended_by begun_after
  name_over g p v =
      at_byte (name p v)
      ∙ ap
      (λ (b : Bool).
      cond b [] (token (name_of v) p ∷ alone i at) ++ onward (cond b (name p (grown v (digit_of at))) (begins i at)) text (i + 1))
      (is_digit_lem at s.byte ∙ ap (λ (x : ℕ). ltb x 37) (sym s.class) ∙ le-ltb k 37 g)
      ∙ ap (λ (ts : List Token). token (name_of v) p ∷ ts) (sym (at_byte nothing))

  -- where nothing has begun
  abbrev by_class : ℕ → List Token
  by_class x = alone_by i x ++ onward (begins_by i x) text (i + 1)

  classed : onward nothing text i ≡ by_class k
  unfolding ended_by begun_after
  classed = at_byte nothing ∙ sym (ap by_class s.class ∙ rw (alone_by_lem at s.byte i, begins_by_lem at s.byte i) refl)

  pub blank : k ≡ 39 → onward nothing text i ≡ onward nothing text (i + 1)
  unfolding alone_by begins_by
  blank g = classed ∙ ap by_class g

  pub hash : k ≡ 37 → onward nothing text i ≡ onward comment text (i + 1)
  unfolding alone_by begins_by
  hash g = classed ∙ ap by_class g

  pub digit : k < 37 → onward nothing text i ≡ onward (name i k) text (i + 1)
  unfolding alone_by begins_by
  digit g = classed ∙ simp (lt-ltb k 62 (omega arith), ne_eqb k 37 (λ z. omega arith), ne_eqb k 38 (λ z. omega arith), lt-ltb k 37 g)

  pub mark : 62 ≤ k → onward nothing text i ≡ token k i ∷ onward nothing text (i + 1)
  unfolding alone_by begins_by
  mark g = classed ∙ simp (le-ltb k 62 g, ne_eqb k 37 (λ z. omega arith), ne_eqb k 38 (λ z. omega arith), le-ltb k 37 (omega arith))

  -- a colon is what is neither a digit, nor `#`, nor a token by itself, nor a blank
  module _ (o : (37 < k) × (k < 62) × (k ≡ 39 → ⊥)) where
    begun_colon : onward nothing text i ≡ onward (colon i) text (i + 1)
    unfolding alone_by begins_by
    begun_colon =
        let e = s.class in
        classed ∙ ap by_class (e ∙ the_colon at s.byte (omega (arith, e, o.0)) (omega (arith, e, o.1)) (λ z. o.2 (e ∙ z)))

    pub pair : get_or text (i + 1) 0 ≡ 61 → onward nothing text i ≡ token becomes i ∷ onward nothing text (i + 2)
    pair q =
        let two : i + 1 + 1 ≡ i + 2 = omega arith in
        begun_colon ∙ colon_pair text (i + 1) (omega (arith, pair_inside text i q)) i q ∙ ap (λ (j : ℕ). token becomes i ∷ onward nothing text j) two

    pub lone : (get_or text (i + 1) 0 ≡ 61 → ⊥) → onward nothing text i ≡ token unknown i ∷ onward nothing text (i + 1)
    lone n = begun_colon ∙ by (dec_le (length text) (i + 1))
      where
        by : Dec (length text ≤ i + 1) → onward (colon i) text (i + 1) ≡ token unknown i ∷ onward nothing text (i + 1)
        by (yes z) = colon_last text (i + 1) z i
        by (no z) = colon_other text (i + 1) (omega (arith, z)) i n
