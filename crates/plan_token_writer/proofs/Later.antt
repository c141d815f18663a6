-- The items of a term's row: each tree among them is at a later term, in one of the contexts. Assumes nothing.
use Prim.Native.Nat.{ℕ, ◌+◌, ◌*◌, ◌/◌, ◌%◌, ◌<◌}
use native.Mathlib.Decide.{ℕ_discrete, dec_lt}
use native.Mathlib.Omega.{arith}
use mathlib.Core.Path.{◌≡◌, refl, sym, subst, ◌∙◌}
use mathlib.Core.Bool.{Bool, true, false, cond, ◌&&◌}
use mathlib.Core.List.{List, [], ◌∷◌, ◌++◌}
use lib.Dec.{eqb, ltb}
use lib.ListN.{get_or}
use borrow.Author.Tests.{le-ltb, lt-ltb, eq-eqb, ne_eqb}
use Rattle.plan_packed.specs.Format.{table, layout}
use Rattle.plan_packed.specs.Inner.Operands.{tag_of, first_of, second_of, third_of, slot_bits, let_first, let_second, field_bits, write_second, procedure_bits, list_bits}
use Rattle.plan_packed.specs.Trees.{nodes, node_of}
use Rattle.plan_packed.specs.Inner.Steps.{Ordered, in_word}
use Rattle.plan_packed.proofs.Tags.{past, by_tag}
use Rattle.plan_packed.proofs.Walk.{row_below}
use Rattle.plan_notation.specs.Tokens.{opening, closing}
use Rattle.plan_token_writer.specs.Inner.Items.{token, child, as_arguments, bits_behind, operand_by, binder_on, item_of, item_rows, condition_row, row_as, row_number}
use Rattle.plan_token_writer.specs.Inner.Items.{items_from}
use Rattle.plan_token_writer.specs.Inner.Items.{row_items}

-- an item that is a token, or a tree at a term after t in a context
abbrev pub LaterItem : ℕ → ℕ → Type 0
LaterItem t i = i < 16384 → (i / 1024 < 10) × (t < i % 1024)

abbrev pub Later : ℕ → List ℕ → Type 0
Later t [] = Unit {0}
Later t (i ∷ is) = LaterItem t i × Later t is

pub later_token : (t x : ℕ) → LaterItem t (token x)
later_token t x h = absurd (omega arith)

later_child : (t c y : ℕ) → c < 10 → y < 1024 → t < y → LaterItem t (child c y)
later_child t c y h k l m = (high c y h k, subst (λ (z : ℕ). t < z) (sym (low c y k)) l)
  where
    high : (c y : ℕ) → c < 10 → y < 1024 → (c * 1024 + y) / 1024 < 10
    high c y h k = omega arith

    low : (c y : ℕ) → y < 1024 → (c * 1024 + y) % 1024 ≡ y
    low c y k = omega arith

later_append : (t : ℕ) (is js : List ℕ) → Later t is → Later t js → Later t (is ++ js)
later_append t [] js h k = k
later_append t (i ∷ is) js h k = (h.0, later_append t is js h.1 k)

-- ten bits
below : (x : ℕ) → x % 1024 < 1024
below x = omega arith

-- in parentheses too
grouped_later : (t : ℕ) (b : Bool) (is : List ℕ) → Later t is → Later t (cond b (token opening ∷ is ++ (token closing ∷ [])) is)
grouped_later t false is h = h
grouped_later t true is h = (later_token t opening, later_append t is (token closing ∷ []) h (later_token t closing, tt))

-- the slot of a let
later_binder : (t x : ℕ) → LaterItem t (binder_on x)
unfolding binder_on
later_binder t x = go (eqb x 15)
  where
    go : (b : Bool) → LaterItem t (cond b (token 68) (token x))
    go true = later_token t 68
    go false = later_token t x

-- ---- by the tag

module _ (ws : List ℕ) (o : Ordered ws) (t d : ℕ) where
  abbrev w : ℕ
  w = get_or ws t 0

  abbrev Row : ℕ → ℕ → Type 0
  Row k r = tag_of w ≡ k → Later t (row_items d w r)

  later_1 : Row 1 1
  unfolding row_items item_rows item_of operand_by bits_behind node_of in_word layout table nodes
  later_1 e =
      grouped_later t (ltb (row_number 1 0) d) (items_from w 1 2 1)
      (later_token t (32 + slot_bits w), tt)

  later_3 : Row 3 3
  unfolding row_items item_rows item_of operand_by bits_behind node_of in_word layout table nodes
  later_3 e =
      grouped_later t (ltb (row_number 3 0) d) (items_from w 3 2 3)
      (later_child t 3 (first_of w) (omega arith) (below _) (row_below ws o t 3 e), (later_token t 65, (later_token t (field_bits w), tt)))

  later_4 : Row 4 4
  unfolding row_items item_rows item_of operand_by bits_behind node_of in_word layout table nodes
  later_4 e =
      grouped_later t (ltb (row_number 4 0) d) (items_from w 4 2 5) (
        later_child t 3 (first_of w) (omega arith) (below _) (row_below ws o t 4 e).0,
        (
          later_token t 65,
          (
            later_token t (field_bits w),
            (later_token t 67, (later_child t 0 (write_second w) (omega arith) (below _) (row_below ws o t 4 e).1, tt)),
          ),
        ),
      )

  later_5 : Row 5 5
  unfolding row_items item_rows item_of operand_by bits_behind node_of in_word layout table nodes
  later_5 e =
      grouped_later t (ltb (row_number 5 0) d) (items_from w 5 2 6) (
        later_token t 53,
        (
          later_binder t (slot_bits w),
          (
            later_token t 66,
            (
              later_child t 0 (let_first w) (omega arith) (below _) (row_below ws o t 5 e).0,
              (later_token t 43, (later_child t 0 (let_second w) (omega arith) (below _) (row_below ws o t 5 e).1, tt)),
            ),
          ),
        ),
      )

  later_6 : Row 6 6
  unfolding row_items item_rows item_of operand_by bits_behind node_of in_word layout table nodes
  later_6 e =
      grouped_later t (ltb (row_number 6 0) d) (items_from w 6 2 6) (
        later_token t 54,
        (
          later_child t 4 (first_of w) (omega arith) (below _) (row_below ws o t 6 e).0,
          (
            later_token t 44,
            (
              later_child t 0 (second_of w) (omega arith) (below _) (row_below ws o t 6 e).1,
              (later_token t 45, (later_child t 0 (third_of w) (omega arith) (below _) (row_below ws o t 6 e).2, tt)),
            ),
          ),
        ),
      )

  later_7 : Row 7 7
  unfolding row_items item_rows item_of operand_by bits_behind node_of in_word layout table nodes
  later_7 e =
      grouped_later t (ltb (row_number 7 0) d) (items_from w 7 2 4) (
        later_token t 55,
        (
          later_child t 4 (first_of w) (omega arith) (below _) (row_below ws o t 7 e).0,
          (later_token t 46, (later_child t 0 (second_of w) (omega arith) (below _) (row_below ws o t 7 e).1, tt)),
        ),
      )

  later_8 : Row 8 8
  unfolding row_items item_rows item_of operand_by bits_behind node_of in_word layout table nodes
  later_8 e =
      grouped_later t (ltb (row_number 8 0) d) (items_from w 8 2 4) (
        later_token t 56,
        (
          later_token t (procedure_bits w),
          (later_token t 62, (later_child t 8 (list_bits w) (omega arith) (below _) (row_below ws o t 8 e), tt)),
        ),
      )

  later_9 : Row 9 9
  unfolding row_items item_rows item_of operand_by bits_behind node_of in_word layout table nodes
  later_9 e =
      grouped_later t (ltb (row_number 9 0) d) (items_from w 9 2 2)
      (later_token t 57, (later_child t 2 (first_of w) (omega arith) (below _) (row_below ws o t 9 e), tt))

  later_10 : Row 10 10
  unfolding row_items item_rows item_of operand_by bits_behind node_of in_word layout table nodes
  later_10 e =
      grouped_later t (ltb (row_number 10 0) d) (items_from w 10 2 2)
      (later_token t 58, (later_child t 2 (first_of w) (omega arith) (below _) (row_below ws o t 10 e), tt))

  later_11 : Row 11 11
  unfolding row_items item_rows item_of operand_by bits_behind node_of in_word layout table nodes
  later_11 e =
      grouped_later t (ltb (row_number 11 0) d) (items_from w 11 2 4) (
        later_token t 59,
        (
          later_child t 0 (first_of w) (omega arith) (below _) (row_below ws o t 11 e).0,
          (later_token t 46, (later_child t 0 (second_of w) (omega arith) (below _) (row_below ws o t 11 e).1, tt)),
        ),
      )

  later_18 : Row 18 18
  unfolding row_items item_rows item_of operand_by bits_behind node_of in_word layout table nodes
  later_18 e =
      grouped_later t (ltb (row_number 18 0) d) (items_from w 18 2 2)
      (later_token t 60, (later_child t 2 (first_of w) (omega arith) (below _) (row_below ws o t 18 e), tt))

  later_19 : Row 19 19
  unfolding row_items item_rows item_of operand_by bits_behind node_of in_word layout table nodes
  later_19 e =
      grouped_later t (ltb (row_number 19 0) d) (items_from w 19 2 2)
      (later_token t 61, (later_child t 2 (first_of w) (omega arith) (below _) (row_below ws o t 19 e), tt))

  later_20 : Row 20 20
  unfolding row_items item_rows item_of operand_by bits_behind node_of in_word layout table nodes
  later_20 e =
      grouped_later t (ltb (row_number 20 0) d) (items_from w 20 2 3)
      (later_token t 61, (later_token t 47, (later_child t 2 (first_of w) (omega arith) (below _) (row_below ws o t 20 e), tt)))

  later_13_22 : Row 13 22
  unfolding row_items item_rows item_of operand_by bits_behind node_of in_word layout table nodes
  later_13_22 e =
      grouped_later t (ltb (row_number 22 0) d) (items_from w 22 2 2)
      (later_token t 50, (later_child t 5 (first_of w) (omega arith) (below _) (row_below ws o t 13 e), tt))

  later_14_23 : Row 14 23
  unfolding row_items item_rows item_of operand_by bits_behind node_of in_word layout table nodes
  later_14_23 e =
      grouped_later t (ltb (row_number 23 0) d) (items_from w 23 2 3) (
        later_child t 5 (first_of w) (omega arith) (below _) (row_below ws o t 14 e).0,
        (later_token t 48, (later_child t 4 (second_of w) (omega arith) (below _) (row_below ws o t 14 e).1, tt)),
      )

  later_15_24 : Row 15 24
  unfolding row_items item_rows item_of operand_by bits_behind node_of in_word layout table nodes
  later_15_24 e =
      grouped_later t (ltb (row_number 24 0) d) (items_from w 24 2 3) (
        later_child t 2 (first_of w) (omega arith) (below _) (row_below ws o t 15 e).0,
        (later_token t 66, (later_child t 2 (second_of w) (omega arith) (below _) (row_below ws o t 15 e).1, tt)),
      )

  later_16_25 : Row 16 25
  unfolding row_items item_rows item_of operand_by bits_behind node_of in_word layout table nodes
  later_16_25 e =
      grouped_later t (ltb (row_number 25 0) d) (items_from w 25 2 2) (
        later_child t 0 (first_of w) (omega arith) (below _) (row_below ws o t 16 e).0,
        (later_child t 9 (second_of w) (omega arith) (below _) (row_below ws o t 16 e).1, tt),
      )

  later_16_26 : Row 16 26
  unfolding row_items item_rows item_of operand_by bits_behind node_of in_word layout table nodes
  later_16_26 e =
      grouped_later t (ltb (row_number 26 0) d) (items_from w 26 2 3) (
        later_token t 64,
        (
          later_child t 0 (first_of w) (omega arith) (below _) (row_below ws o t 16 e).0,
          (later_child t 9 (second_of w) (omega arith) (below _) (row_below ws o t 16 e).1, tt),
        ),
      )

  -- single tokens of other sorts
  later_single : (r x : ℕ) → items_from w r 2 (row_number r 1) ≡ token x ∷ [] → Later t (row_items d w r)
  unfolding row_items
  later_single r x e = grouped_later t (ltb (row_number r 0) d) (items_from w r 2 (row_number r 1)) (rw e (later_token t x, tt))

  true_items : items_from w 21 2 (row_number 21 1) ≡ token 49 ∷ []
  unfolding items_from item_rows item_of
  true_items = refl

  end_items : items_from w 27 2 (row_number 27 1) ≡ token 63 ∷ []
  unfolding items_from item_rows item_of
  end_items = refl

  null_items : items_from w 0 2 (row_number 0 1) ≡ token 51 ∷ []
  unfolding items_from item_rows item_of
  null_items = refl

  -- null, and what is read as null
  later_0 : Row 0 0
  unfolding items_from item_rows item_of
  later_0 e = later_single 0 51 refl

  later_2 : Row 2 2
  unfolding items_from item_rows item_of
  later_2 e = later_single 2 51 refl

  later_12 : Row 12 12
  unfolding items_from item_rows item_of
  later_12 e = later_single 12 51 refl

  later_13 : Row 13 13
  unfolding items_from item_rows item_of
  later_13 e = later_single 13 51 refl

  later_14 : Row 14 14
  unfolding items_from item_rows item_of
  later_14 e = later_single 14 51 refl

  later_15 : Row 15 15
  unfolding items_from item_rows item_of
  later_15 e = later_single 15 51 refl

  later_16 : Row 16 16
  unfolding items_from item_rows item_of
  later_16 e = later_single 16 51 refl

  later_17 : Row 17 17
  unfolding items_from item_rows item_of
  later_17 e = later_single 17 51 refl

  -- an expression
  later_past : (j : ℕ) → Row (past 21 j) (cond (ltb (past 21 j) 21) (past 21 j) 0)
  later_past j e = rw (le-ltb (past 21 j) 21 (omega arith)) (later_single 0 51 null_items)

  expression_later : (k : ℕ) → Row k (cond (ltb k 21) k 0)
  expression_later = by_tag (λ k. Row k (cond (ltb k 21) k 0)) later_0 later_1 later_2 later_3 later_4 later_5 later_6 later_7 later_8 later_9 later_10
      later_11 later_12 later_13 later_14 later_15 later_16 later_17 later_18 later_19 later_20 later_past

  -- a condition
  abbrev inside : ℕ → Bool
  inside k = ltb 12 k && ltb k 16

  no_condition : (k : ℕ) → (k ≡ 13 → ⊥) → (k ≡ 14 → ⊥) → (k ≡ 15 → ⊥) → inside k ≡ false
  no_condition k a b c = go (dec_lt 12 k) (dec_lt k 16)
    where
      go : Dec (12 < k) → Dec (k < 16) → inside k ≡ false
      go (no l) m = rw (le-ltb 12 k (omega (arith, l)))
      go (yes l) (no m) = rw (lt-ltb 12 k l, le-ltb k 16 (omega (arith, m)))
      go (yes l) (yes m) = absurd (omega (arith, a, b, c))

  condition_later : (k : ℕ) → Row k (condition_row k)
  unfolding condition_row
  condition_later k = go (ℕ_discrete k 13) (ℕ_discrete k 14) (ℕ_discrete k 15)
    where
      go : Dec (k ≡ 13) → Dec (k ≡ 14) → Dec (k ≡ 15) → Row k (cond (inside k) (9 + k) 21)
      go (yes e) y z = subst (λ (k : ℕ). Row k (cond (inside k) (9 + k) 21)) (sym e) later_13_22
      go (no a) (yes e) z = subst (λ (k : ℕ). Row k (cond (inside k) (9 + k) 21)) (sym e) later_14_23
      go (no a) (no b) (yes e) = subst (λ (k : ℕ). Row k (cond (inside k) (9 + k) 21)) (sym e) later_15_24
      go (no a) (no b) (no c) = λ e. rw (no_condition k a b c) (later_single 21 49 true_items)

  -- a list
  list_later : (c k : ℕ) → Row k (cond (eqb k 16) (cond (eqb c as_arguments) 25 26) 27)
  list_later c k = go (ℕ_discrete k 16) (eqb c as_arguments)
    where
      both : (b : Bool) → Row 16 (cond b 25 26)
      both true = later_16_25
      both false = later_16_26

      go : Dec (k ≡ 16) → (b : Bool) → Row k (cond (eqb k 16) (cond b 25 26) 27)
      go (yes q) b = λ e. rw (eq-eqb k 16 q) (both b (e ∙ q))
      go (no q) b = λ e. rw (ne_eqb k 16 q) (later_single 27 63 end_items)

  -- in any context
  pub row_later : (c : ℕ) → Later t (row_items d w (row_as c (tag_of w)))
  unfolding row_as
  row_later c = go (ltb c 4) (ltb c 8)
    where
      go : (a b : Bool) → Later t
          (row_items d w (cond a (cond (ltb (tag_of w) 21) (tag_of w) 0)
          (cond b (condition_row (tag_of w)) (cond (eqb (tag_of w) 16) (cond (eqb c as_arguments) 25 26) 27))))
      go true b = expression_later (tag_of w) refl
      go false true = condition_later (tag_of w) refl
      go false false = list_later c (tag_of w) refl
