-- `wrong_term`: the tests by the row of the tag, one after the other.
use mathlib.Core.Path.{◌≡◌, sym, subst, ap, ◌∙◌}
use mathlib.Core.Bool.{Bool, true, false, not, true≢false}
use Prim.Native.Nat.{ℕ, ◌≤◌, ◌<◌}
use lib.Dec.{eqb}
use Rattle.plan_packed.specs.Inner.Operands.{tag_of}
use Rattle.plan_packed.specs.Refusals.{breaks_table}
use Rattle.plan_packed.specs.Format.{tag_count}
use Rattle.plan_packed.specs.Inner.Rows.{number_at, bits_to, bits_after, wrong_other, wrong_terms, wrong_by_row, children_by_row}
use Rattle.plan_packed.specs.Inner.Steps.{term_in, children_of}
use Rattle.plan_packed.specs.Trees.{node_of}
use Rattle.plan_packed.proofs.RowLaws.{by_row, kind_small, children_are}
use Rattle.plan_packed.proofs.SingleTerm.{past_table, row_is}
use Rattle.plan_terms.proofs.table.wrong_term.Goals as goal
use Rattle.plan_terms.proofs.table.wrong_term.Goals.{After-wrong_other, then-wrong_other, else-wrong_other}

module _ (procedures n t w k : ℕ) (e : k ≡ tag_of w) (h : k < tag_count) where
  of_row : (r : Bool) → r ≡ wrong_by_row procedures n t w k → r ≡ breaks_table procedures n t (term_in w)
  of_row r q = by_row procedures n t w r (subst (λ (j : ℕ). j < tag_count) e h) (q ∙ ap (wrong_by_row procedures n t w) e)

  -- the children by the row
  by_tag : children_by_row w k ≡ children_of (node_of (term_in w))
  by_tag = children_are w k h ∙ sym (ap children_of (row_is w k (sym e)))

  -- the operand that is no term
  module _ (x : Bool) (other : x ≡ wrong_other procedures (number_at k 2) (bits_to (number_at k 3) w)) where
    other_wrong : x ≡ true → true ≡ breaks_table procedures n t (term_in w)
    unfolding wrong_by_row
    other_wrong a = of_row true (rw (sym other ∙ a))

    -- the children
    module _ (y : Bool) (children : y ≡ wrong_terms n t w k) where
      child_wrong : x ≡ false → y ≡ true → true ≡ breaks_table procedures n t (term_in w)
      unfolding wrong_by_row
      child_wrong a b = of_row true (rw (sym other ∙ a, sym children ∙ b))

      -- the spare bits
      by_spare : x ≡ false → y ≡ false → (s : ℕ) → s ≡ bits_after (number_at k 1) w → not (eqb s 0) ≡ breaks_table procedures n t (term_in w)
      unfolding wrong_by_row
      by_spare a b s q = of_row (not (eqb s 0)) (rw (sym other ∙ a, sym children ∙ b, q))

pub returns-then-tag-ge-TAGS : goal.returns-then-tag-ge-TAGS
returns-then-tag-ge-TAGS c =
    let a = c.args in record { value = past_table a.procedures a.count a.term a.word (subst (λ (k : ℕ). tag_count ≤ k) c.tag-tag.ensures c.if-tag-ge-TAGS.true); notes_after = (λ q. absurd (true≢false q)); scopes_after = λ q. absurd (true≢false q) }

pub wrong_other-requires : goal.wrong_other-requires
wrong_other-requires c =
    subst (λ (k : ℕ). k < 6) (sym c.number-kind.ensures) (kind_small c.tag-tag.result c.if-tag-ge-TAGS.false)

-- what the row says of the operand that is no term
other_is :
    (c : After-wrong_other) →
    c.wrong_other.result ≡ wrong_other c.args.procedures
    (number_at c.tag-tag.result 2)
    (bits_to (number_at c.tag-tag.result 3) c.args.word)
other_is c = rw (c.number-place.ensures, c.number-kind.ensures) at c.wrong_other.ensures

pub returns-then-wrong_children-clause-value : goal.returns-then-wrong_children-clause-value
returns-then-wrong_children-clause-value c =
    let a = c.args in
    let k = c.tag-tag.result in
    let other = other_is (goal.at.returns-then-wrong_children-clause-value c).After-wrong_other in
    c.if-wrong_children.true ∙ elim c.if-wrong_other.branch [
      | then-wrong_other w ↦ other_wrong a.procedures a.count a.term a.word k c.tag-tag.ensures c.if-tag-ge-TAGS.false _ other w.if-wrong_other.true
      | else-wrong_other w ↦ child_wrong a.procedures a.count a.term a.word k c.tag-tag.ensures c.if-tag-ge-TAGS.false _ other _
          w.wrong_children.ensures.value w.if-wrong_other.false (sym w.value-is ∙ c.if-wrong_children.true)
    ]

pub returns-else-wrong_children-clause-value : goal.returns-else-wrong_children-clause-value
returns-else-wrong_children-clause-value c =
    let a = c.args in
    let k = c.tag-tag.result in
    let other = other_is (goal.at.returns-else-wrong_children-clause-value c).After-wrong_other in
    elim c.if-wrong_other.branch [
      | then-wrong_other w ↦ absurd (true≢false (sym w.if-wrong_other.true ∙ sym w.value-is ∙ c.if-wrong_children.false))
      | else-wrong_other w ↦ by_spare a.procedures a.count a.term a.word k c.tag-tag.ensures c.if-tag-ge-TAGS.false _ other _
          w.wrong_children.ensures.value w.if-wrong_other.false (sym w.value-is ∙ c.if-wrong_children.false) _ (rw c.number.ensures at c.bits_after.ensures)
    ]

pub returns-else-wrong_children-clause-notes_after : goal.returns-else-wrong_children-clause-notes_after
returns-else-wrong_children-clause-notes_after c =
    let a = c.args in
    λ q. elim c.if-wrong_other.branch [
      | then-wrong_other w ↦ absurd (true≢false (sym w.if-wrong_other.true ∙ sym w.value-is ∙ c.if-wrong_children.false))
      | else-wrong_other w ↦ w.notes-is ∙ (rw (by_tag a.procedures a.count a.term a.word c.tag-tag.result c.tag-tag.ensures c.if-tag-ge-TAGS.false) at
          (w.wrong_children.ensures.notes_after (sym w.value-is ∙ c.if-wrong_children.false)))
    ]
