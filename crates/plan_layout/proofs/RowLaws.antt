-- The row of a token: how long its text is, and its bytes. Assumes nothing.
use Prim.Native.Nat.{ℕ, zero, suc, ◌<◌}
use native.Mathlib.Omega.{arith}
use mathlib.Core.Path.{◌≡◌, refl, ap}
use mathlib.Core.List.{List, [], ◌∷◌, map}
use lib.ListN.{length, get_or}
use Rattle.text.specs.Text.{ascii}
use Rattle.plan_notation.specs.Tokens.{text_end, texts, text_of}
use Rattle.plan_layout.specs.Inner.Rows.{text_row, text_rows}

-- the place of a list that is made from another
map_at : {A B : Type 0} (f : A → B) (l : List A) (n : ℕ) (a : A) (b : B) → n < length l → get_or (map f l) n b ≡ f (get_or l n a)
map_at f [] n a b h = absurd (omega arith)
map_at f (x ∷ l) zero a b h = refl
map_at f (x ∷ l) (suc n) a b h = map_at f l n a b (omega arith)

module _ (t : ℕ) (h : t < text_end) where
  pub row_is : get_or text_rows t [] ≡ text_row (text_of t)
  unfolding text_rows text_of texts ascii
  row_is = map_at text_row texts t [] [] h

  -- a number of the row
  pub first_is : get_or (get_or text_rows t []) 0 0 ≡ length (text_of t)
  unfolding text_row
  first_is = ap (λ (row : List ℕ). get_or row 0 0) row_is
