-- The tokens of items, one by one and of a row. Assumes nothing.
use Prim.Native.Nat.{ℕ, ◌+◌, ◌*◌, ◌/◌, ◌%◌, ◌<◌}
use native.Mathlib.Omega.{arith}
use mathlib.Core.Path.{◌≡◌, refl, sym, ap, ap₂, ◌∙◌}
use mathlib.Core.Bool.{Bool, true, false, cond}
use mathlib.Core.List.{List, [], ◌∷◌, ◌++◌, append-nil, append_assoc}
use borrow.Author.Tests.{le-leb, lt-leb}
use Rattle.plan_notation.specs.Tokens.{opening, closing}
use Rattle.plan_token_writer.specs.Inner.Items.{token, child, shown_as, item_tokens, tokens_in}

module _ (words : List ℕ) where
  -- a token
  pub token_is : (t : ℕ) → t < 256 → item_tokens words (token t) ≡ t ∷ []
  unfolding item_tokens
  token_is t h = rw (le-leb 16384 (token t) (omega arith)) (ap (λ (x : ℕ). x ∷ []) (low t h))
    where
      low : (t : ℕ) → t < 256 → (16384 + t) % 256 ≡ t
      low t h = omega arith

  -- a tree in a context
  pub child_is : (c t : ℕ) → c < 16 → t < 1024 → item_tokens words (child c t) ≡ shown_as words c t
  unfolding item_tokens
  child_is c t h k = rw (lt-leb 16384 (child c t) (omega arith)) (ap₂ (shown_as words) (high c t k) (low c t k))
    where
      high : (c t : ℕ) → t < 1024 → (c * 1024 + t) / 1024 ≡ c
      high c t k = omega arith

      low : (c t : ℕ) → t < 1024 → (c * 1024 + t) % 1024 ≡ t
      low c t k = omega arith

  -- lists of tokens, one behind the other
  abbrev pub joined : List (List ℕ) → List ℕ
  joined [] = []
  joined (a ∷ []) = a
  joined (a ∷ (b ∷ r)) = a ++ joined (b ∷ r)

  -- items, each with its tokens
  abbrev pub Each : List ℕ → List (List ℕ) → Type 0
  Each [] [] = Unit {0}
  Each [] (a ∷ tss) = ⊥
  Each (i ∷ is) [] = ⊥
  Each (i ∷ is) (a ∷ tss) = (item_tokens words i ≡ a) × Each is tss

  pub tokens_are : (is : List ℕ) (tss : List (List ℕ)) → Each is tss → tokens_in words is ≡ joined tss
  unfolding tokens_in
  tokens_are [] [] h = refl
  tokens_are [] (a ∷ tss) h = absurd h
  tokens_are (i ∷ is) [] h = absurd h
  tokens_are (i ∷ []) (a ∷ []) h = ap (λ (l : List ℕ). l ++ []) h.0 ∙ append-nil a
  tokens_are (i ∷ []) (a ∷ (b ∷ tss)) h = absurd h.1
  tokens_are (i ∷ (j ∷ is)) (a ∷ []) h = absurd h.1
  tokens_are (i ∷ (j ∷ is)) (a ∷ (b ∷ tss)) h = ap₂ (λ (x y : List ℕ). x ++ y) h.0 (tokens_are (j ∷ is) (b ∷ tss) h.1)

  -- items behind items
  pub tokens_append : (is js : List ℕ) → tokens_in words (is ++ js) ≡ tokens_in words is ++ tokens_in words js
  unfolding tokens_in
  tokens_append [] js = refl
  tokens_append (i ∷ is) js = ap (λ (l : List ℕ). item_tokens words i ++ l) (tokens_append is js)
      ∙ sym (append_assoc (item_tokens words i) (tokens_in words is) (tokens_in words js))

  -- in parentheses
  closing_is : tokens_in words (token closing ∷ []) ≡ closing ∷ []
  closing_is = tokens_are (token closing ∷ []) ((closing ∷ []) ∷ []) (token_is closing (omega arith), tt)

  inside : (is ts : List ℕ) → tokens_in words is ≡ ts → tokens_in words (token opening ∷ is ++ (token closing ∷ [])) ≡ opening ∷ ts ++ (closing ∷ [])
  unfolding tokens_in
  inside is ts e =
      ap₂ (λ (x y : List ℕ). x ++ y) (token_is opening (omega arith)) (tokens_append is (token closing ∷ []) ∙ ap₂ (λ (x y : List ℕ). x ++ y) e closing_is)

  -- or not
  pub grouped_are : (b : Bool) (is ts : List ℕ) → tokens_in words is ≡ ts
      → tokens_in words (cond b (token opening ∷ is ++ (token closing ∷ [])) is) ≡ cond b (opening ∷ ts ++ (closing ∷ [])) ts
  grouped_are false is ts e = e
  grouped_are true is ts e = inside is ts e
