-- The place of a token by its number, where another comes first; lines and columns byte by byte. Assumes nothing.
use Prim.Native.Nat.{ℕ, zero, suc, ◌+◌, ◌-◌, ◌<◌}
use native.Mathlib.Numerals.{add-one}
use native.Mathlib.Omega.{arith}
use mathlib.Core.Path.{◌≡◌, refl, sym, ap, ◌∙◌}
use mathlib.Core.Bool.{true, false}
use Rattle.std.specs.Prelude.{Option, None, Some, is_some}
use Rattle.std.proofs.lemmas.Bool.{false≢true}
use Rattle.plan_lexer.specs.Inner.Lexed.{and_then}
use mathlib.Core.List.{List, [], ◌∷◌}
use lib.ListN.{length, get_or, drop}
use lib.Seq.{drop-cons}
use borrow.Author.Tests.{eq-eqb, ne_eqb}
use Rattle.plan_notation.specs.Tokens.{text_end}
use Rattle.plan_notation.specs.Lexing.{Token, token, place_from}
use Rattle.plan_lexer.specs.Place.{place_in}

-- ---- token n of those that begin with a token at place i

module _ (t i : ℕ) (ts : List Token) (n end : ℕ) where
  pub first_place : n ≡ 0 → place_in (token t i ∷ ts) n end ≡ i
  unfolding place_in
  first_place e = ap (λ (k : ℕ). (get_or (token t i ∷ ts) k (token text_end end)).place) e

  pub later_place : (n ≡ 0 → ⊥) → place_in (token t i ∷ ts) n end ≡ place_in ts (n - 1) end
  unfolding place_in
  later_place h =
      let s : n ≡ suc (n - 1) = omega (arith, h) in
      ap (λ (k : ℕ). (get_or (token t i ∷ ts) k (token text_end end)).place) s

-- the same of what begins at a place, which may be no token
module _ (i : ℕ) (ts : List Token) (n end : ℕ) where
  pub first_some : (code : Option ℕ) → is_some code ≡ true → n ≡ 0 → place_in (and_then code i ts) n end ≡ i
  first_some None h e = absurd (false≢true h)
  first_some (Some code) h e = first_place code i ts n end e

  pub later_some : (code : Option ℕ) → is_some code ≡ true → (n ≡ 0 → ⊥) → place_in (and_then code i ts) n end ≡ place_in ts (n - 1) end
  later_some None h e = absurd (false≢true h)
  later_some (Some code) h e = later_place code i ts n end e

  pub past_none : (code : Option ℕ) → is_some code ≡ false → place_in (and_then code i ts) n end ≡ place_in ts n end
  past_none None h = refl
  past_none (Some code) h = absurd (false≢true (sym h))

-- the text's end is the last token, and stands for those that there are not
pub at_end : (n end : ℕ) → place_in (token text_end end ∷ []) n end ≡ end
unfolding place_in
at_end zero end = refl
at_end (suc n) end = refl

-- ---- lines and columns

module _ (bytes : List ℕ) (i l k : ℕ) (h : i < length bytes) where
  pub new_line : get_or bytes i 0 ≡ 10 → place_from l k (drop i bytes) ≡ place_from (l + 1) 1 (drop (i + 1) bytes)
  unfolding place_from
  new_line e = ap (place_from l k) (drop-cons bytes i 0 h) ∙ simp (eq-eqb (get_or bytes i 0) 10 e, add-one)

  pub next_column : (get_or bytes i 0 ≡ 10 → ⊥) → place_from l k (drop i bytes) ≡ place_from l (k + 1) (drop (i + 1) bytes)
  unfolding place_from
  next_column e = ap (place_from l k) (drop-cons bytes i 0 h) ∙ simp (ne_eqb (get_or bytes i 0) 10 e, add-one)
