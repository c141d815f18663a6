-- What a step leaves on the stack, and that less is left to do. Assumes nothing.
use Prim.Native.Nat.{ℕ, zero, suc, ◌+◌, ◌-◌, ◌*◌, ◌%◌, ◌≤◌, ◌<◌}
use native.Mathlib.Decide.{dec_le}
use native.Mathlib.Omega.{arith}
use mathlib.Core.Path.{◌≡◌, refl, ap, ◌∙◌}
use mathlib.Core.Bool.{Bool, true, false, cond}
use mathlib.Core.List.{List, [], ◌∷◌, ◌++◌}
use lib.Dec.{ltb, leb}
use lib.ListN.{length, length-append, get_or}
use borrow.Author.Tests.{le-leb, lt-leb}
use Rattle.format.proofs.Ranges.{by_range}
use Rattle.plan_notation.specs.Tokens.{opening, closing}
use Rattle.plan_token_writer.specs.Inner.Items.{token, item_tokens, tokens_in, item_rows, row_number, items_from, row_items, stack_of, InContext, key_of, weight}
use Rattle.plan_token_writer.proofs.ItemTokens.{tokens_append}
use Rattle.plan_token_writer.proofs.Operands.{items_length, few_items}
use Rattle.plan_token_writer.proofs.Later.{LaterItem, Later}

-- ---- the stack

pub stack_length : (a : List ℕ) (n : ℕ) → length (stack_of a n) ≡ n
unfolding stack_of
stack_length a zero = refl
stack_length a (suc n) = ap suc (stack_length a n)

-- the item on top
pub top_item : (a : List ℕ) (n : ℕ) → 0 < n → stack_of a n ≡ get_or a (n - 1) 0 ∷ stack_of a (n - 1)
unfolding stack_of
top_item a zero h = absurd (omega arith)
top_item a (suc n) h = ap (λ (m : ℕ). get_or a m 0 ∷ stack_of a m) (one n)
  where
    one : (n : ℕ) → n ≡ suc n - 1
    one n = omega arith

-- ---- what is left to do

key_small : (is : List ℕ) → key_of is ≤ 1024
unfolding key_of
key_small [] = omega arith
key_small (i ∷ is) = go (leb 16384 i)
  where
    go : (b : Bool) → cond b 0 (1024 - i % 1024) ≤ 1024
    go true = omega arith
    go false = omega arith

module _ (words : List ℕ) where
  tokens_length : (i : ℕ) (is : List ℕ) → length (tokens_in words (i ∷ is)) ≡ length (item_tokens words i) + length (tokens_in words is)
  unfolding tokens_in
  tokens_length i is = length-append (item_tokens words i) (tokens_in words is)

  -- an item is written
  pub written_less : (i : ℕ) (is : List ℕ) → 0 < length (item_tokens words i) → weight words is < weight words (i ∷ is)
  unfolding weight
  written_less i is h = by (length (item_tokens words i)) _ _ _ _ h (tokens_length i is) (key_small is)
    where
      by : (a b c k l : ℕ) → 0 < a → c ≡ a + b → k ≤ 1024 → 1025 * b + k < 1025 * c + l
      by a b c k l h e m = omega arith

  -- the first item of a row is a token, or at a later term
  first_less : (t j : ℕ) (js : List ℕ) → t < 1024 → LaterItem t j → key_of (j ∷ js) < 1024 - t
  unfolding key_of
  first_less t j js h l = go (dec_le 16384 j)
    where
      go : Dec (16384 ≤ j) → cond (leb 16384 j) 0 (1024 - j % 1024) < 1024 - t
      go (yes k) = rw (le-leb 16384 j k) (omega arith)
      go (no k) = rw (lt-leb 16384 j (omega (arith, k))) (by (j % 1024) t h (l (omega (arith, k))).1)
        where
          by : (x t : ℕ) → t < 1024 → t < x → 1024 - x < 1024 - t
          by x t h k = omega arith

  key_of_lem : (i : ℕ) (is : List ℕ) → i < 16384 → key_of (i ∷ is) ≡ 1024 - i % 1024
  unfolding key_of
  key_of_lem i is h = rw (lt-leb 16384 i h)

  -- a term gives way to its row's items
  pub expanded_less : (i : ℕ) (js is : List ℕ) → i < 16384 → 0 < length js → Later (i % 1024) js → tokens_in words js ≡ item_tokens words i
      → weight words (js ++ is) < weight words (i ∷ is)
  unfolding weight
  expanded_less i [] is h n l e = absurd (omega arith)
  expanded_less i (j ∷ js) is h n l e =
      by _ _ _ _ _ _ (ap length (tokens_append words (j ∷ js) is) ∙ length-append (tokens_in words (j ∷ js)) (tokens_in words is)) (ap length e)
      (tokens_length i is)
      (first_less (i % 1024) j (js ++ is) (omega arith) l.0) (key_of_lem i is h)
    where
      by : (a b c d k l : ℕ) {m : ℕ} → a ≡ b + c → b ≡ d → {f : ℕ} → f ≡ d + c → k < m → l ≡ m → 1025 * a + k < 1025 * f + l
      by a b c d k l p q r s t = omega arith

-- ---- the items of a row, on a stack

pub row_length : (d w r : ℕ) → r < 28 → length (row_items d w r) ≤ 8
unfolding row_items
row_length d w r h = go (ltb (row_number r 0) d)
  where
    n : length (items_from w r 2 (row_number r 1)) ≤ 6
    n = omega (arith, items_length w r 2 (row_number r 1), few_items r h)

    go : (b : Bool) → length (cond b (token opening ∷ items_from w r 2 (row_number r 1) ++ (token closing ∷ [])) (items_from w r 2 (row_number r 1))) ≤ 8
    go true = omega (arith, n, length-append (items_from w r 2 (row_number r 1)) (token closing ∷ []))
    go false = omega (arith, n)

some_items : (r : ℕ) → r < 28 → 0 < row_number r 1
unfolding row_number item_rows
some_items =
    by_range (λ r. 0 < row_number r 1) 0 28 ((r : ℕ) → r < 28 → 0 < row_number r 1) (λ all r h. all r (omega arith) h)
    (omega arith) (omega arith) (omega arith) (omega arith) (omega arith) (omega arith) (omega arith)
    (omega arith) (omega arith) (omega arith) (omega arith) (omega arith) (omega arith) (omega arith)
    (omega arith) (omega arith) (omega arith) (omega arith) (omega arith) (omega arith) (omega arith)
    (omega arith) (omega arith) (omega arith) (omega arith) (omega arith) (omega arith) (omega arith)

pub row_some : (d w r : ℕ) → r < 28 → 0 < length (row_items d w r)
unfolding row_items
row_some d w r h = go (ltb (row_number r 0) d)
  where
    go : (b : Bool) → 0 < length (cond b (token opening ∷ items_from w r 2 (row_number r 1) ++ (token closing ∷ [])) (items_from w r 2 (row_number r 1)))
    go true = omega arith
    go false = omega (arith, items_length w r 2 (row_number r 1), some_items r h)

pub contexts_more : (t : ℕ) (js is : List ℕ) → Later t js → InContext is → InContext (js ++ is)
contexts_more t [] is l k = k
contexts_more t (j ∷ js) is l k = (λ h. (l.0 h).0, contexts_more t js is l.1 k)
