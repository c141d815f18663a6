-- The tokens of a term are those of its row's items, by its tag. Assumes nothing.
use Prim.Native.Nat.{ℕ, ◌+◌, ◌-◌, ◌%◌, ◌<◌}
use native.Mathlib.Decide.{ℕ_discrete, dec_lt}
use native.Mathlib.Omega.{arith}
use mathlib.Core.Path.{◌≡◌, refl, sym, ap, subst, ◌∙◌}
use mathlib.Core.Bool.{false, cond, ◌&&◌}
use mathlib.Core.List.{List, [], ◌∷◌}
use mathlib.Core.Option.{some, none}
use lib.Dec.{eqb, ltb}
use lib.ListN.{get_or}
use borrow.Author.Tests.{le-ltb, lt-ltb, eq-eqb, ne_eqb}
use Rattle.plan_packed.specs.Syntax.{Condition, Arguments}
use Rattle.plan_packed.specs.Format.{table, layout}
use Rattle.plan_packed.specs.Inner.Operands.{tag_of, first_of, second_of, third_of, slot_bits, let_first, let_second, field_bits, write_second, procedure_bits, list_bits}
use Rattle.plan_packed.specs.Trees.{nodes, node_of, expression_of, condition_of, arguments_of, binder_of}
use Rattle.plan_packed.specs.Inner.Steps.{Ordered, in_word, tree_in, condition_in, list_in}
use Rattle.plan_packed.proofs.SingleTerm.{row_of}
use Rattle.format.proofs.Ranges.{NoneOf}
use Rattle.plan_packed.proofs.Tags.{past, by_tag, except}
use Rattle.plan_packed.proofs.Children.{list_ends}
use Rattle.plan_packed.proofs.Walk.{expr_is, cond_is, list_is}
use Rattle.plan_notation.specs.Tokens.{then_word, else_word, do_word, all_word, and_word, true_word, not_word, null_word, let_word, if_word, while_word}
use Rattle.plan_notation.specs.Tokens as tokens
use Rattle.plan_notation.specs.Tokens.{call_word, fork_word, join_word, synch_word, wait_word, notify_word, opening, closing, comma, dot, equals, becomes, dash}
use Rattle.plan_notation.specs.Shown.{loose, testing, prefix, tight, binder_token, shown, shownᶜ, shownᵃ, shown_further}
use Rattle.plan_token_writer.specs.Inner.Items.{token, as_arguments, shown_as, item_tokens, tokens_in, bits_behind, operand_by, binder_on}
use Rattle.plan_token_writer.specs.Inner.Items.{item_of}
use Rattle.plan_token_writer.specs.Inner.Items.{item_rows, condition_row, row_as, items_from, row_items}
use Rattle.plan_token_writer.proofs.ItemTokens.{token_is, child_is, tokens_are, grouped_are}

-- bits are few
small₅ : (x : ℕ) → x % 32 < 256
small₅ x = omega arith

small₄ : (x : ℕ) → 32 + x % 16 < 256
small₄ x = omega arith

sixteen : (x : ℕ) → x % 16 < 16
sixteen x = omega arith

small₁₀ : (x : ℕ) → x % 1024 < 1024
small₁₀ x = omega arith

module _ (ws : List ℕ) (o : Ordered ws) (t : ℕ) where
  abbrev w : ℕ
  w = get_or ws t 0

  -- the slot of a let
  binder_is : (x : ℕ) → x < 16 → item_tokens ws (binder_on x) ≡ binder_token (binder_of x) ∷ []
  unfolding binder_of binder_token binder_on
  binder_is x h = go (ℕ_discrete x 15)
    where
      go : Dec (x ≡ 15) → item_tokens ws (cond (eqb x 15) (token dash) (token x)) ≡ binder_token (cond (eqb x 15) none (some x)) ∷ []
      go (yes e) = rw (eq-eqb x 15 e) (token_is ws dash (omega arith))
      go (no n) = rw (ne_eqb x 15 n) (token_is ws x (omega arith))

  module _ (d : ℕ) (h : d < 4) where
    -- an expression whose row has these tokens
    abbrev Row : ℕ → Type 0
    Row k = tag_of w ≡ k → (k ≡ 2 → ⊥) → tokens_in ws (row_items d w (cond (ltb k 21) k 0)) ≡ shown d (tree_in ws t)

    row_0 : Row 0
    unfolding row_items item_rows item_of operand_by bits_behind node_of in_word layout table nodes expression_of shown shown_as binder_of
    row_0 e n =
        rw (le-ltb 3 d (omega arith))
        (tokens_are ws (items_from w 0 2 1) ((null_word ∷ []) ∷ [])
        (token_is ws null_word (omega arith), tt))
        ∙ sym (ap (shown d) (expr_is ws o t 0 e))

    row_1 : Row 1
    unfolding row_items item_rows item_of operand_by bits_behind node_of in_word layout table nodes expression_of shown shown_as binder_of
    row_1 e n =
        rw (le-ltb 3 d (omega arith))
        (tokens_are ws (items_from w 1 2 1) (((32 + slot_bits w) ∷ []) ∷ [])
        (token_is ws (32 + slot_bits w) (small₄ _), tt))
        ∙ sym (ap (shown d) (expr_is ws o t 1 e))

    row_3 : Row 3
    unfolding row_items item_rows item_of operand_by bits_behind node_of in_word layout table nodes expression_of shown shown_as binder_of
    row_3 e n =
        rw (le-ltb 3 d (omega arith))
        (tokens_are ws (items_from w 3 2 3) (shown tight (tree_in ws (first_of w)) ∷ (dot ∷ []) ∷ (field_bits w ∷ []) ∷ [])
        (child_is ws 3 (first_of w) (omega arith) (small₁₀ _), (token_is ws dot (omega arith), (token_is ws (field_bits w) (small₅ _), tt))))
        ∙ sym (ap (shown d) (expr_is ws o t 3 e))

    row_4 : Row 4
    unfolding row_items item_rows item_of operand_by bits_behind node_of in_word layout table nodes expression_of shown shown_as binder_of
    row_4 e n =
        grouped_are ws (ltb 0 d) (items_from w 4 2 5) _
        (tokens_are ws (items_from w 4 2 5) (shown tight (tree_in ws (first_of w)) ∷ (dot ∷ []) ∷ (field_bits w ∷ []) ∷ (becomes ∷ [])
        ∷ shown loose (tree_in ws (write_second w)) ∷ []) (
          child_is ws 3 (first_of w) (omega arith) (small₁₀ _),
          (
            token_is ws dot (omega arith),
            (token_is ws (field_bits w) (small₅ _), (token_is ws becomes (omega arith), (child_is ws 0 (write_second w) (omega arith) (small₁₀ _), tt))),
          ),
        ))
        ∙ sym (ap (shown d) (expr_is ws o t 4 e))

    row_5 : Row 5
    unfolding row_items item_rows item_of operand_by bits_behind node_of in_word layout table nodes expression_of shown shown_as binder_of
    row_5 e n =
        grouped_are ws (ltb 0 d) (items_from w 5 2 6) _
        (tokens_are ws (items_from w 5 2 6) ((let_word ∷ []) ∷ (binder_token (binder_of (slot_bits w)) ∷ []) ∷ (equals ∷ []) ∷ shown loose (tree_in ws (let_first w))
        ∷ (tokens.in_word ∷ []) ∷ shown loose (tree_in ws (let_second w)) ∷ []) (
          token_is ws let_word (omega arith),
          (
            binder_is (slot_bits w) (sixteen _),
            (
              token_is ws equals (omega arith),
              (
                child_is ws 0 (let_first w) (omega arith) (small₁₀ _),
                (token_is ws tokens.in_word (omega arith), (child_is ws 0 (let_second w) (omega arith) (small₁₀ _), tt)),
              ),
            ),
          ),
        ))
        ∙ sym (ap (shown d) (expr_is ws o t 5 e))

    row_6 : Row 6
    unfolding row_items item_rows item_of operand_by bits_behind node_of in_word layout table nodes expression_of shown shown_as binder_of
    row_6 e n =
        grouped_are ws (ltb 0 d) (items_from w 6 2 6) _
        (tokens_are ws (items_from w 6 2 6) ((if_word ∷ []) ∷ shownᶜ loose (condition_in ws (first_of w)) ∷ (then_word ∷ []) ∷ shown loose (tree_in ws (second_of w))
        ∷ (else_word ∷ []) ∷ shown loose (tree_in ws (third_of w)) ∷ []) (
          token_is ws if_word (omega arith),
          (
            child_is ws 4 (first_of w) (omega arith) (small₁₀ _),
            (
              token_is ws then_word (omega arith),
              (
                child_is ws 0 (second_of w) (omega arith) (small₁₀ _),
                (token_is ws else_word (omega arith), (child_is ws 0 (third_of w) (omega arith) (small₁₀ _), tt)),
              ),
            ),
          ),
        ))
        ∙ sym (ap (shown d) (expr_is ws o t 6 e))

    row_7 : Row 7
    unfolding row_items item_rows item_of operand_by bits_behind node_of in_word layout table nodes expression_of shown shown_as binder_of
    row_7 e n =
        grouped_are ws (ltb 0 d) (items_from w 7 2 4) _
        (tokens_are ws (items_from w 7 2 4)
        ((while_word ∷ []) ∷ shownᶜ loose (condition_in ws (first_of w)) ∷ (do_word ∷ []) ∷ shown loose (tree_in ws (second_of w)) ∷ []) (
          token_is ws while_word (omega arith),
          (
            child_is ws 4 (first_of w) (omega arith) (small₁₀ _),
            (token_is ws do_word (omega arith), (child_is ws 0 (second_of w) (omega arith) (small₁₀ _), tt)),
          ),
        ))
        ∙ sym (ap (shown d) (expr_is ws o t 7 e))

    row_8 : Row 8
    unfolding row_items item_rows item_of operand_by bits_behind node_of in_word layout table nodes expression_of shown shown_as binder_of
    row_8 e n =
        rw (le-ltb 3 d (omega arith))
        (tokens_are ws (items_from w 8 2 4) ((call_word ∷ []) ∷ (procedure_bits w ∷ []) ∷ (opening ∷ []) ∷ shownᵃ (list_in ws (list_bits w)) ∷ []) (
          token_is ws call_word (omega arith),
          (token_is ws (procedure_bits w) (small₅ _), (token_is ws opening (omega arith), (child_is ws 8 (list_bits w) (omega arith) (small₁₀ _), tt))),
        ))
        ∙ sym (ap (shown d) (expr_is ws o t 8 e))

    row_9 : Row 9
    unfolding row_items item_rows item_of operand_by bits_behind node_of in_word layout table nodes expression_of shown shown_as binder_of
    row_9 e n =
        grouped_are ws (ltb 2 d) (items_from w 9 2 2) _
        (tokens_are ws (items_from w 9 2 2) ((fork_word ∷ []) ∷ shown prefix (tree_in ws (first_of w)) ∷ [])
        (token_is ws fork_word (omega arith), (child_is ws 2 (first_of w) (omega arith) (small₁₀ _), tt)))
        ∙ sym (ap (shown d) (expr_is ws o t 9 e))

    row_10 : Row 10
    unfolding row_items item_rows item_of operand_by bits_behind node_of in_word layout table nodes expression_of shown shown_as binder_of
    row_10 e n =
        grouped_are ws (ltb 2 d) (items_from w 10 2 2) _
        (tokens_are ws (items_from w 10 2 2) ((join_word ∷ []) ∷ shown prefix (tree_in ws (first_of w)) ∷ [])
        (token_is ws join_word (omega arith), (child_is ws 2 (first_of w) (omega arith) (small₁₀ _), tt)))
        ∙ sym (ap (shown d) (expr_is ws o t 10 e))

    row_11 : Row 11
    unfolding row_items item_rows item_of operand_by bits_behind node_of in_word layout table nodes expression_of shown shown_as binder_of
    row_11 e n =
        grouped_are ws (ltb 0 d) (items_from w 11 2 4) _
        (tokens_are ws (items_from w 11 2 4) ((synch_word ∷ []) ∷ shown loose (tree_in ws (first_of w)) ∷ (do_word ∷ []) ∷ shown loose (tree_in ws (second_of w)) ∷
        []) (
          token_is ws synch_word (omega arith),
          (
            child_is ws 0 (first_of w) (omega arith) (small₁₀ _),
            (token_is ws do_word (omega arith), (child_is ws 0 (second_of w) (omega arith) (small₁₀ _), tt)),
          ),
        ))
        ∙ sym (ap (shown d) (expr_is ws o t 11 e))

    row_12 : Row 12
    unfolding row_items item_rows item_of operand_by bits_behind node_of in_word layout table nodes expression_of shown shown_as binder_of
    row_12 e n =
        rw (le-ltb 3 d (omega arith))
        (tokens_are ws (items_from w 12 2 1) ((null_word ∷ []) ∷ [])
        (token_is ws null_word (omega arith), tt))
        ∙ sym (ap (shown d) (expr_is ws o t 12 e))

    row_13 : Row 13
    unfolding row_items item_rows item_of operand_by bits_behind node_of in_word layout table nodes expression_of shown shown_as binder_of
    row_13 e n =
        rw (le-ltb 3 d (omega arith))
        (tokens_are ws (items_from w 13 2 1) ((null_word ∷ []) ∷ [])
        (token_is ws null_word (omega arith), tt))
        ∙ sym (ap (shown d) (expr_is ws o t 13 e))

    row_14 : Row 14
    unfolding row_items item_rows item_of operand_by bits_behind node_of in_word layout table nodes expression_of shown shown_as binder_of
    row_14 e n =
        rw (le-ltb 3 d (omega arith))
        (tokens_are ws (items_from w 14 2 1) ((null_word ∷ []) ∷ [])
        (token_is ws null_word (omega arith), tt))
        ∙ sym (ap (shown d) (expr_is ws o t 14 e))

    row_15 : Row 15
    unfolding row_items item_rows item_of operand_by bits_behind node_of in_word layout table nodes expression_of shown shown_as binder_of
    row_15 e n =
        rw (le-ltb 3 d (omega arith))
        (tokens_are ws (items_from w 15 2 1) ((null_word ∷ []) ∷ [])
        (token_is ws null_word (omega arith), tt))
        ∙ sym (ap (shown d) (expr_is ws o t 15 e))

    row_16 : Row 16
    unfolding row_items item_rows item_of operand_by bits_behind node_of in_word layout table nodes expression_of shown shown_as binder_of
    row_16 e n =
        rw (le-ltb 3 d (omega arith))
        (tokens_are ws (items_from w 16 2 1) ((null_word ∷ []) ∷ [])
        (token_is ws null_word (omega arith), tt))
        ∙ sym (ap (shown d) (expr_is ws o t 16 e))

    row_17 : Row 17
    unfolding row_items item_rows item_of operand_by bits_behind node_of in_word layout table nodes expression_of shown shown_as binder_of
    row_17 e n =
        rw (le-ltb 3 d (omega arith))
        (tokens_are ws (items_from w 17 2 1) ((null_word ∷ []) ∷ [])
        (token_is ws null_word (omega arith), tt))
        ∙ sym (ap (shown d) (expr_is ws o t 17 e))

    row_18 : Row 18
    unfolding row_items item_rows item_of operand_by bits_behind node_of in_word layout table nodes expression_of shown shown_as binder_of
    row_18 e n =
        grouped_are ws (ltb 2 d) (items_from w 18 2 2) _
        (tokens_are ws (items_from w 18 2 2) ((wait_word ∷ []) ∷ shown prefix (tree_in ws (first_of w)) ∷ [])
        (token_is ws wait_word (omega arith), (child_is ws 2 (first_of w) (omega arith) (small₁₀ _), tt)))
        ∙ sym (ap (shown d) (expr_is ws o t 18 e))

    row_19 : Row 19
    unfolding row_items item_rows item_of operand_by bits_behind node_of in_word layout table nodes expression_of shown shown_as binder_of
    row_19 e n =
        grouped_are ws (ltb 2 d) (items_from w 19 2 2) _
        (tokens_are ws (items_from w 19 2 2) ((notify_word ∷ []) ∷ shown prefix (tree_in ws (first_of w)) ∷ [])
        (token_is ws notify_word (omega arith), (child_is ws 2 (first_of w) (omega arith) (small₁₀ _), tt)))
        ∙ sym (ap (shown d) (expr_is ws o t 19 e))

    row_20 : Row 20
    unfolding row_items item_rows item_of operand_by bits_behind node_of in_word layout table nodes expression_of shown shown_as binder_of
    row_20 e n =
        grouped_are ws (ltb 2 d) (items_from w 20 2 3) _
        (tokens_are ws (items_from w 20 2 3) ((notify_word ∷ []) ∷ (all_word ∷ []) ∷ shown prefix (tree_in ws (first_of w)) ∷ [])
        (token_is ws notify_word (omega arith), (token_is ws all_word (omega arith), (child_is ws 2 (first_of w) (omega arith) (small₁₀ _), tt))))
        ∙ sym (ap (shown d) (expr_is ws o t 20 e))

    row_past : (j : ℕ) → Row (past 21 j)
    unfolding row_items item_rows item_of operand_by bits_behind node_of in_word layout table nodes expression_of shown shown_as
    row_past j e n =
        rw (le-ltb (past 21 j) 21 (omega arith), le-ltb 3 d (omega arith))
        (tokens_are ws (items_from w 0 2 1) ((null_word ∷ []) ∷ [])
        (token_is ws null_word (omega arith), tt))
        ∙ sym (ap (shown d) (expr_is ws o t (past 21 j) e))

    -- an expression of any tag but `new`, which is written at once
    expression_row : (k : ℕ) → Row k
    expression_row = by_tag Row row_0 row_1 (λ e n. absurd (n refl)) row_3 row_4 row_5 row_6 row_7 row_8 row_9 row_10 row_11 row_12 row_13 row_14 row_15
        row_16 row_17 row_18 row_19 row_20 row_past

    -- a condition
    abbrev Rowᶜ : ℕ → Type 0
    Rowᶜ k = tag_of w ≡ k → tokens_in ws (row_items d w (cond (ltb 12 k && ltb k 16) (9 + k) 21)) ≡ shownᶜ d (condition_in ws t)

    rowᶜ_13 : Rowᶜ 13
    unfolding row_items item_rows item_of operand_by bits_behind node_of in_word layout table nodes condition_of arguments_of shown shown_as
    rowᶜ_13 e =
        grouped_are ws (ltb 1 d) (items_from w 22 2 2) _
        (tokens_are ws (items_from w 22 2 2) ((not_word ∷ []) ∷ shownᶜ testing (condition_in ws (first_of w)) ∷ [])
        (token_is ws not_word (omega arith), (child_is ws 5 (first_of w) (omega arith) (small₁₀ _), tt)))
        ∙ sym (ap (shownᶜ d) (cond_is ws o t 13 e))

    rowᶜ_14 : Rowᶜ 14
    unfolding row_items item_rows item_of operand_by bits_behind node_of in_word layout table nodes condition_of arguments_of shown shown_as
    rowᶜ_14 e =
        grouped_are ws (ltb 0 d) (items_from w 23 2 3) _
        (tokens_are ws (items_from w 23 2 3) (shownᶜ testing (condition_in ws (first_of w)) ∷ (and_word ∷ []) ∷ shownᶜ loose (condition_in ws (second_of w)) ∷ [])
        (child_is ws 5 (first_of w) (omega arith) (small₁₀ _), (token_is ws and_word (omega arith), (child_is ws 4 (second_of w) (omega arith) (small₁₀ _), tt))))
        ∙ sym (ap (shownᶜ d) (cond_is ws o t 14 e))

    rowᶜ_15 : Rowᶜ 15
    unfolding row_items item_rows item_of operand_by bits_behind node_of in_word layout table nodes condition_of arguments_of shown shown_as
    rowᶜ_15 e =
        grouped_are ws (ltb 1 d) (items_from w 24 2 3) _
        (tokens_are ws (items_from w 24 2 3) (shown prefix (tree_in ws (first_of w)) ∷ (equals ∷ []) ∷ shown prefix (tree_in ws (second_of w)) ∷ [])
        (child_is ws 2 (first_of w) (omega arith) (small₁₀ _), (token_is ws equals (omega arith), (child_is ws 2 (second_of w) (omega arith) (small₁₀ _), tt))))
        ∙ sym (ap (shownᶜ d) (cond_is ws o t 15 e))

    -- true, and any other term, which is read as true
    true_row : tokens_in ws (row_items d w 21) ≡ true_word ∷ []
    unfolding row_items item_rows item_of
    true_row = rw (le-ltb 3 d (omega arith)) (tokens_are ws (items_from w 21 2 1) ((true_word ∷ []) ∷ []) (token_is ws true_word (omega arith), tt))

    truths : (k : ℕ) → NoneOf k (15 ∷ 14 ∷ 13 ∷ []) → condition_of (tree_in ws) (condition_in ws) (row_of k w) ≡ Condition.truth
    unfolding node_of in_word layout table nodes condition_of
    truths = except (λ k. condition_of (tree_in ws) (condition_in ws) (row_of k w) ≡ Condition.truth)
        (15 ∷ 14 ∷ 13 ∷ []) refl refl refl refl refl refl refl refl refl refl refl refl refl tt tt tt refl refl refl refl refl (λ j. refl)

    other_rows : (k : ℕ) → NoneOf k (15 ∷ 14 ∷ 13 ∷ []) → (ltb 12 k && ltb k 16) ≡ false
    other_rows = except (λ k. (ltb 12 k && ltb k 16) ≡ false) (15 ∷ 14 ∷ 13 ∷ []) refl refl refl refl refl refl refl refl refl refl refl refl refl tt tt tt
        refl refl refl refl refl
        (λ j. rw (lt-ltb 12 (past 21 j) (omega arith), le-ltb (past 21 j) 16 (omega arith)))

    condition_rest : (k : ℕ) → NoneOf k (15 ∷ 14 ∷ 13 ∷ []) → Rowᶜ k
    unfolding shown
    condition_rest k n e = rw (other_rows k n) true_row ∙ sym (ap (shownᶜ d) (cond_is ws o t k e ∙ truths k n))

    condition_row_lem : (k : ℕ) → Rowᶜ k
    condition_row_lem k = go (ℕ_discrete k 13) (ℕ_discrete k 14) (ℕ_discrete k 15)
      where
        go : Dec (k ≡ 13) → Dec (k ≡ 14) → Dec (k ≡ 15) → Rowᶜ k
        go (yes e) y z = subst Rowᶜ (sym e) rowᶜ_13
        go (no a) (yes e) z = subst Rowᶜ (sym e) rowᶜ_14
        go (no a) (no b) (yes e) = subst Rowᶜ (sym e) rowᶜ_15
        go (no a) (no b) (no c) = condition_rest k (((tt, a), b), c)

  -- a call's arguments, and those behind one
  arguments_row : tag_of w ≡ 16 → tokens_in ws (row_items 0 w 25) ≡ shownᵃ (list_in ws t)
  unfolding row_items item_rows item_of operand_by bits_behind node_of in_word layout table nodes condition_of arguments_of shown shown_as
  arguments_row e =
      tokens_are ws (items_from w 25 2 2) (shown loose (tree_in ws (first_of w)) ∷ shown_further (list_in ws (second_of w)) ∷ [])
      (child_is ws 0 (first_of w) (omega arith) (small₁₀ _), (child_is ws 9 (second_of w) (omega arith) (small₁₀ _), tt))
      ∙ sym (ap shownᵃ (list_is ws o t 16 e))

  further_row : tag_of w ≡ 16 → tokens_in ws (row_items 1 w 26) ≡ shown_further (list_in ws t)
  unfolding row_items item_rows item_of operand_by bits_behind node_of in_word layout table nodes condition_of arguments_of shown shown_as
  further_row e =
      tokens_are ws (items_from w 26 2 3) ((comma ∷ []) ∷ shown loose (tree_in ws (first_of w)) ∷ shown_further (list_in ws (second_of w)) ∷ [])
      (token_is ws comma (omega arith), (child_is ws 0 (first_of w) (omega arith) (small₁₀ _), (child_is ws 9 (second_of w) (omega arith) (small₁₀ _), tt)))
      ∙ sym (ap shown_further (list_is ws o t 16 e))

  -- the end of both
  end_is : (k : ℕ) → tag_of w ≡ k → (k ≡ 16 → ⊥) → list_in ws t ≡ Arguments.end
  unfolding node_of in_word
  end_is k e n = list_is ws o t k e ∙ list_ends _ _ _ _ _ k n

  end_row : (d : ℕ) → d < 4 → tokens_in ws (row_items d w 27) ≡ closing ∷ []
  unfolding row_items item_rows item_of
  end_row d h = rw (le-ltb 3 d (omega arith)) (tokens_are ws (items_from w 27 2 1) ((closing ∷ []) ∷ []) (token_is ws closing (omega arith), tt))

  -- in any context
  by_list : (c k : ℕ) → c < 10 → (c < 8 → ⊥) → tag_of w ≡ k → Dec (k ≡ 16) → Dec (c ≡ 8)
      → tokens_in ws (row_items (c % 4) w (cond (eqb k 16) (cond (eqb c as_arguments) 25 26) 27)) ≡ cond (eqb c 8) (shownᵃ (list_in ws t))
      (shown_further (list_in ws t))
  unfolding shown
  by_list c k h l e (yes q) (yes r) = rw (r, q) (arguments_row (e ∙ q))
  by_list c k h l e (yes q) (no r) = rw (nine c h l r, q) (further_row (e ∙ q))
    where
      nine : (c : ℕ) → c < 10 → (c < 8 → ⊥) → (c ≡ 8 → ⊥) → c ≡ 9
      nine c h l r = omega (arith, l, r)
  by_list c k h l e (no q) (yes r) = rw (ne_eqb k 16 q, r) (end_row 0 (omega arith) ∙ sym (ap shownᵃ (end_is k e q)))
  by_list c k h l e (no q) (no r) = rw (ne_eqb k 16 q, ne_eqb c 8 r) (end_row (c % 4) (omega arith) ∙ sym (ap shown_further (end_is k e q)))

  pub row_tokens : (c : ℕ) → c < 10 → (c < 4 → tag_of w ≡ 2 → ⊥) → tokens_in ws (row_items (c % 4) w (row_as c (tag_of w))) ≡ shown_as ws c t
  unfolding row_as condition_row shown_as
  row_tokens c h n = go (dec_lt c 4) (dec_lt c 8)
    where
      low : (c : ℕ) → c < 4 → c % 4 ≡ c
      low c l = omega arith

      high : (c : ℕ) → (c < 4 → ⊥) → c < 8 → c % 4 ≡ c - 4
      high c m l = omega (arith, m)

      go : Dec (c < 4) → Dec (c < 8)
          → tokens_in ws (row_items (c % 4) w
          (cond (ltb c 4) (cond (ltb (tag_of w) 21) (tag_of w) 0)
          (cond (ltb c 8) (cond (ltb 12 (tag_of w) && ltb (tag_of w) 16) (9 + tag_of w) 21) (cond (eqb (tag_of w) 16) (cond (eqb c as_arguments) 25 26) 27))))
          ≡ cond (ltb c 4) (shown c (tree_in ws t))
          (cond (ltb c 8) (shownᶜ (c - 4) (condition_in ws t)) (cond (eqb c 8) (shownᵃ (list_in ws t)) (shown_further (list_in ws t))))
      go (yes l) m = rw (lt-ltb c 4 l, low c l) (expression_row c l (tag_of w) refl (n l))
      go (no l) (yes m) = rw (le-ltb c 4 (omega (arith, l)), lt-ltb c 8 m, high c l m) (condition_row_lem (c - 4) (omega (arith, l)) (tag_of w) refl)
      go (no l) (no m) = rw (le-ltb c 4 (omega (arith, l)), le-ltb c 8 (omega (arith, m)))
          (by_list c (tag_of w) h m refl (ℕ_discrete (tag_of w) 16) (ℕ_discrete c 8))
