-- What is laid out is found again: the tokens of a text that some tokens are laid out as are these tokens, and the text's end. Assumes nothing.
use Prim.Native.Nat.{ℕ, zero, suc, ◌<◌, ◌≤◌}
use native.Mathlib.Nat.{zero-add}
use native.Mathlib.Omega.{arith}
use native.Mathlib.Decide.{dec_lt}
use mathlib.Core.Path.{◌≡◌, refl, ap, sym, ◌∙◌}
use mathlib.Core.Bool.{Bool, true, false, cond, ◌&&◌, and-eq-true_iff, and-false, or-true, false≢true}
use mathlib.Core.List.{List, [], ◌∷◌, ◌++◌, map}
use lib.Dec.{eqb, ltb}
use lib.ListN.{get_or, replicate}
use borrow.Author.Tests.{ltb-true, ne_eqb}
use Rattle.format.specs.Refusal.{lowest}
use Rattle.format.proofs.Ranges.{by_range}
use Rattle.text.specs.Text.{ascii}
use Rattle.plan_notation.specs.Tokens.{closing, comma, dot, equals, becomes, dash, opening, text_end, text_of, texts}
use Rattle.plan_notation.specs.Inner.Known.{Known}
use Rattle.plan_notation.specs.Lexing.{Token, Begun, nothing, name, digit_of, grown, value_from, value_of, name_of, begins, alone, begun_after, ended_by}
use Rattle.plan_notation.specs.Lexing.{ended_at_end, tokens_from, codes_of}
use Rattle.plan_notation.specs.Layout.{Pen, start, apart, on_new_line, indentation, gap, pen_after, laid_from, laid_out}
use Rattle.plan_notation.proofs.Tested.{passed, equated}

-- the codes of the tokens from a place on
abbrev codes : Begun → ℕ → List ℕ → List ℕ
codes b i cs = map (λ (t : Token). t.code) (tokens_from b i cs)

-- ---- what a name is made of

is_digit : ℕ → Bool
is_digit c = ltb 0 (digit_of c)

digits : List ℕ → Bool
unfolding is_digit
digits [] = true
digits (c ∷ cs) = is_digit c && digits cs

-- a digit, then digits
is_name : List ℕ → Bool
unfolding digits
is_name [] = false
is_name (c ∷ cs) = is_digit c && digits cs

names : (t : ℕ) → t < opening → is_name (text_of t) ≡ true
unfolding is_name digits is_digit digit_of text_of texts ascii lowest
names = passed (λ (k : ℕ). is_name (text_of k)) opening refl

-- the name of a token is that token
named : (t : ℕ) → t < opening → name_of (value_of t) ≡ t
unfolding name_of value_of texts ascii lowest
named = equated (λ (k : ℕ). name_of (value_of k)) (λ (k : ℕ). k) opening refl

-- a digit is none of the bytes that are none
other : (c k : ℕ) → digit_of k ≡ 0 → 0 < digit_of c → eqb c k ≡ false
other c k z h = ne_eqb c k (λ e. let f : digit_of c ≡ 0 = ap digit_of e ∙ z in omega arith)

-- ---- bytes one by one: R is what is found of the bytes behind them, wherever they begin

module _ (cs R : List ℕ) where
  -- blanks
  blanks : (n : ℕ) → ((j : ℕ) → codes nothing j cs ≡ R) → (i : ℕ) → codes nothing i (replicate n 32 ++ cs) ≡ R
  unfolding tokens_from begun_after ended_by begins alone digit_of
  blanks zero h i = h i
  blanks (suc n) h i = blanks n h (suc i)

  -- more digits of a name
  longer : (s : ℕ) (xs : List ℕ) (v : ℕ) → digits xs ≡ true → ((j : ℕ) → codes (name s (value_from v xs)) j cs ≡ R)
      → (i : ℕ) → codes (name s v) i (xs ++ cs) ≡ R
  unfolding tokens_from begun_after ended_by digits is_digit value_from
  longer s [] v d h i = h i
  longer s (x ∷ xs) v d h i =
      let e = (and-eq-true_iff (is_digit x) (digits xs)).0 d in
      rw e.0 (longer s xs (grown v (digit_of x)) e.1 h (suc i))

  -- a name from its first digit on
  whole : (xs : List ℕ) → is_name xs ≡ true → ((s j : ℕ) → codes (name s (value_from 0 xs)) j cs ≡ R) → (i : ℕ) → codes nothing i (xs ++ cs) ≡ R
  unfolding tokens_from begun_after ended_by begins alone is_name digits is_digit value_from grown
  whole [] d h i = absurd (false≢true d)
  whole (x ∷ xs) d h i =
      let e = (and-eq-true_iff (is_digit x) (digits xs)).0 d in
      let g : 0 < digit_of x = ltb-true 0 (digit_of x) e.0 in
      simp (other x 35 refl g, other x 58 refl g, e.0, or-true) (longer i xs (digit_of x) e.1 (λ j. rw zero-add at (h i j)) (suc i))

-- behind a name stands what is no digit
ended : (cs : List ℕ) (s v i : ℕ) → digit_of (get_or cs 0 0) ≡ 0 → codes (name s v) i cs ≡ name_of v ∷ codes nothing i cs
unfolding tokens_from begun_after ended_by ended_at_end
ended [] s v i h = refl
ended (c ∷ cs) s v i h = rw h

-- ---- marks

-- a mark begins with no digit, and is found where its text ends
pub record Mark (t : ℕ) : Type 0 where
  pub parts : (cs : List ℕ) → digit_of (get_or (text_of t ++ cs) 0 0) ≡ 0
  pub found : (cs R : List ℕ) → ((j : ℕ) → codes nothing j cs ≡ R) → (i : ℕ) → codes nothing i (text_of t ++ cs) ≡ t ∷ R

behind : (cs R : List ℕ) → ((j : ℕ) → codes nothing j cs ≡ R) → (t j : ℕ) → t ∷ codes nothing j cs ≡ t ∷ R
behind cs R h t j = ap (λ (l : List ℕ). t ∷ l) (h j)

marks : (t : ℕ) → opening ≤ t → t < text_end → Mark t
unfolding tokens_from begun_after ended_by begins alone digit_of text_of texts ascii
marks =
    by_range Mark opening 7 ((t : ℕ) → opening ≤ t → t < text_end → Mark t) (λ all t p q. all t p q)
    (record { parts = λ cs. refl; found = λ cs R h i. behind cs R h opening (suc i) })
    (record { parts = λ cs. refl; found = λ cs R h i. behind cs R h closing (suc i) })
    (record { parts = λ cs. refl; found = λ cs R h i. behind cs R h comma (suc i) })
    (record { parts = λ cs. refl; found = λ cs R h i. behind cs R h dot (suc i) })
    (record { parts = λ cs. refl; found = λ cs R h i. behind cs R h equals (suc i) })
    (record { parts = λ cs. refl; found = λ cs R h i. behind cs R h becomes (suc (suc i)) })
    (record { parts = λ cs. refl; found = λ cs R h i. behind cs R h dash (suc i) })

-- ---- what stands between tokens

-- a space parts two names
names_apart : (s t : ℕ) → s < opening → t < opening → apart s t ≡ true
unfolding apart
names_apart s t h g =
    simp (
      ne_eqb t closing (λ e. omega arith),
      ne_eqb t comma (λ e. omega arith),
      ne_eqb t dot (λ e. omega arith),
      ne_eqb t opening (λ e. omega arith),
      ne_eqb s opening (λ e. omega arith),
      ne_eqb s dot (λ e. omega arith),
      ne_eqb s text_end (λ e. omega arith),
      and-false,
    )

module _ (cs R : List ℕ) (h : (j : ℕ) → codes nothing j cs ≡ R) where
  gap_by : (new spaced : Bool) (n i : ℕ) → codes nothing i (cond new (10 ∷ replicate n 32) (cond spaced (32 ∷ []) []) ++ cs) ≡ R
  unfolding tokens_from begun_after ended_by begins alone digit_of
  gap_by true spaced n i = blanks cs R n h (suc i)
  gap_by false true n i = h (suc i)
  gap_by false false n i = h i

  -- a gap is no token
  through : (p : Pen) (t i : ℕ) → codes nothing i (gap p t ++ cs) ≡ R
  unfolding gap
  through p t i = gap_by (on_new_line p t) (apart p.last t) (indentation p t) i

-- behind a name a text goes on with no digit
gap_first : (new spaced : Bool) (n : ℕ) (cs : List ℕ) → (spaced ≡ false → digit_of (get_or cs 0 0) ≡ 0)
    → digit_of (get_or (cond new (10 ∷ replicate n 32) (cond spaced (32 ∷ []) []) ++ cs) 0 0) ≡ 0
unfolding digit_of
gap_first true spaced n cs h = refl
gap_first false true n cs h = refl
gap_first false false n cs h = h refl

-- ---- the whole text

-- behind a name a text that is laid out goes on with no digit
goes_on_lem : (ts : List ℕ) (p : Pen) → Known ts → p.last < opening → digit_of (get_or (laid_from p ts) 0 0) ≡ 0
unfolding laid_from gap digit_of
goes_on_lem [] p k h = refl
goes_on_lem (t ∷ ts) p k h = gap_first (on_new_line p t) (apart p.last t) (indentation p t) _ (λ e. by e (dec_lt t opening))
  where
    by : apart p.last t ≡ false → Dec (t < opening) → digit_of (get_or (text_of t ++ laid_from (pen_after p t) ts) 0 0) ≡ 0
    by e (yes g) = absurd (false≢true (sym e ∙ names_apart p.last t h g))
    by e (no g) = (marks t (omega (arith, g)) (k 0)).parts _

-- one token more
more : (ts : List ℕ) (t : ℕ) (p : Pen) → Known (t ∷ ts) → ((j : ℕ) → codes nothing j (laid_from (pen_after p t) ts) ≡ ts ++ (text_end ∷ []))
    → (j : ℕ) → codes nothing j (text_of t ++ laid_from (pen_after p t) ts) ≡ t ∷ ts ++ (text_end ∷ [])
unfolding pen_after value_of
more ts t p k rest j = by (dec_lt t opening)
  where
    by : Dec (t < opening) → codes nothing j (text_of t ++ laid_from (pen_after p t) ts) ≡ t ∷ ts ++ (text_end ∷ [])
    by (yes g) =
        whole _ _ (text_of t) (names t g)
        (λ s i.
        ended _ s (value_of t) i (goes_on_lem ts (pen_after p t) (λ n. k (suc n)) g)
        ∙ ap (λ (x : ℕ). x ∷ codes nothing i (laid_from (pen_after p t) ts)) (named t g)
        ∙ behind _ _ rest t i)
        j
    by (no g) = (marks t (omega (arith, g)) (k 0)).found _ _ rest j

found_from : (ts : List ℕ) (p : Pen) → Known ts → (i : ℕ) → codes nothing i (laid_from p ts) ≡ ts ++ (text_end ∷ [])
unfolding laid_from tokens_from begun_after ended_by ended_at_end begins alone digit_of
found_from [] p k i = refl
found_from (t ∷ ts) p k i = through _ _ (more ts t p k (found_from ts (pen_after p t) (λ n. k (suc n)))) p t i

-- the tokens that are laid out, and the end of the text
pub found_again : (ts : List ℕ) → Known ts → codes_of (laid_out ts) ≡ ts ++ (text_end ∷ [])
unfolding codes_of laid_out
found_again ts k = found_from ts start k 0
