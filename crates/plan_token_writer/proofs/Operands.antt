-- Laws of the operands of a row's items. Assumes nothing.
use Prim.Native.Nat.{ℕ, zero, suc, ◌+◌, ◌-◌, ◌*◌, ◌/◌, ◌%◌, ◌^◌, ◌≤◌, ◌<◌}
use native.Mathlib.Omega.{arith}
use mathlib.Core.Path.{◌≡◌, refl, ap, subst, ◌∙◌}
use mathlib.Core.List.{[], ◌∷◌, ◌++◌}
use lib.ListN.{length}
use Rattle.format.specs.Refusal.{lowest}
use Rattle.format.proofs.Ranges.{NoneOf, by_range}
use Rattle.plan_notation.specs.Tokens.{opening, closing}
use Rattle.plan_notation.proofs.Tested.{equated}
use borrow.Author.Tests.{lt-ltb, le-ltb, ne_eqb}
use Rattle.plan_token_writer.specs.Inner.Items.{token, child, bits_behind, operand_by, item_of, item_rows, row_number, items_from, row_items}

-- how many bits stand behind an operand, as the code has them in one number
pub shift_is : (k : ℕ) → k < 8 → 5640542247784217 / 2 ^ (8 * k) % 64 ≡ bits_behind k
unfolding bits_behind lowest
shift_is = equated (λ (k : ℕ). 5640542247784217 / 2 ^ (8 * k) % 64) bits_behind 8 refl

-- an item that is a token, and one that is a child
pub item_token : (w i : ℕ) → i < 70 → item_of w i ≡ token i
unfolding item_of
item_token w i h = rw (lt-ltb i 70 h)

pub item_child : (w i : ℕ) → 70 ≤ i → NoneOf i (73 ∷ 72 ∷ 71 ∷ 70 ∷ []) → item_of w i ≡ child (i % 16) (operand_by (i / 16 % 8) w)
unfolding item_of
item_child w i h n = rw (le-ltb i 70 h, ne_eqb i 70 n.0.0.0.1, ne_eqb i 71 n.0.0.1, ne_eqb i 72 n.0.1, ne_eqb i 73 n.1)

-- every row has six items at most
pub few_items : (r : ℕ) → r < 28 → row_number r 1 ≤ 6
unfolding row_number item_rows
few_items =
    by_range (λ r. row_number r 1 ≤ 6) 0 28 ((r : ℕ) → r < 28 → row_number r 1 ≤ 6) (λ all r h. all r (omega arith) h)
    (omega arith) (omega arith) (omega arith) (omega arith) (omega arith) (omega arith) (omega arith)
    (omega arith) (omega arith) (omega arith) (omega arith) (omega arith) (omega arith) (omega arith)
    (omega arith) (omega arith) (omega arith) (omega arith) (omega arith) (omega arith) (omega arith)
    (omega arith) (omega arith) (omega arith) (omega arith) (omega arith) (omega arith) (omega arith)

-- one item more of a row, from its end on
one_less : (n l : ℕ) → suc l ≤ n → suc (n - suc l) ≡ n - l
one_less n l k = omega arith

items_at : (w r l n : ℕ) → suc l ≤ n → item_of w (row_number r (2 + l)) ∷ items_from w r (2 + suc l) (n - suc l) ≡ items_from w r (2 + l) (n - l)
unfolding items_from
items_at w r l n k =
    ap (λ (i : ℕ). item_of w (row_number r (2 + l)) ∷ items_from w r i (n - suc l)) (next l) ∙ ap (λ (m : ℕ). items_from w r (2 + l) m) (one_less n l k)
  where
    next : (l : ℕ) → 2 + suc l ≡ suc (2 + l)
    next l = omega arith

pub items_back : (w r left n : ℕ) → 0 < left → left ≤ n
    → item_of w (row_number r (2 + (left - 1))) ∷ items_from w r (2 + left) (n - left) ≡ items_from w r (2 + (left - 1)) (n - (left - 1))
items_back w r left n h k =
    subst (λ (m : ℕ). item_of w (row_number r (2 + (left - 1))) ∷ items_from w r (2 + m) (n - m) ≡ items_from w r (2 + (left - 1)) (n - (left - 1)))
    (whole left h) (items_at w r (left - 1) n (omega arith))
  where
    whole : (n : ℕ) → 0 < n → suc (n - 1) ≡ n
    whole n h = omega arith

-- none of them, at its end
pub items_none : (w r n : ℕ) → items_from w r (2 + n) (n - n) ≡ []
unfolding items_from
items_none w r n = ap (λ (m : ℕ). items_from w r (2 + n) m) (nothing n)
  where
    nothing : (n : ℕ) → n - n ≡ 0
    nothing n = omega arith

-- all of them, at its start
pub items_whole : (w r left n : ℕ) → left ≡ 0 → items_from w r (2 + left) (n - left) ≡ items_from w r 2 n
items_whole w r left n e = rw e (ap (items_from w r 2) (whole n))
  where
    whole : (n : ℕ) → n - 0 ≡ n
    whole n = omega arith

-- how many there are
pub items_length : (w r i n : ℕ) → length (items_from w r i n) ≡ n
unfolding items_from
items_length w r i zero = refl
items_length w r i (suc n) = ap suc (items_length w r (suc i) n)

-- a row's items in parentheses, and without
pub in_parentheses : (d w r : ℕ) → row_number r 0 < d → token opening ∷ items_from w r 2 (row_number r 1) ++ (token closing ∷ []) ≡ row_items d w r
unfolding row_items
in_parentheses d w r h = rw (lt-ltb (row_number r 0) d h)

pub without : (d w r : ℕ) → d ≤ row_number r 0 → items_from w r 2 (row_number r 1) ≡ row_items d w r
unfolding row_items
without d w r h = rw (le-ltb (row_number r 0) d h)
