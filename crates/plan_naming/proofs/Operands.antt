-- The operands of a term that are terms, one after the other by the columns of its tag's row. Assumes nothing.
use mathlib.Core.Path.{◌≡◌, refl, ap, sym, ◌∙◌}
use mathlib.Core.Bool.{cond}
use mathlib.Core.List.{List, [], ◌∷◌}
use Prim.Native.Nat.{ℕ, zero, suc, ◌+◌, ◌*◌, ◌<◌}
use native.Mathlib.Omega.{arith}
use lib.Dec.{eqb}
use lib.ListN.{get_or}
use borrow.Author.Tests.{eq-eqb, ne_eqb}
use Rattle.plan_packed.specs.Format.{tag_count}
use Rattle.plan_packed.specs.Inner.Operands.{tag_of}
use Rattle.plan_packed.specs.Inner.Rows.{number_at, child_at, children_by_row}
use Rattle.plan_packed.specs.Inner.Steps.{Child, child_of, children_of, node_in, lower_all, count_all}
use Rattle.plan_packed.proofs.RowLaws.{lower_more, count_more, named_by_row}

-- the operand by the number in column c and the place after it, and those after it, where there are any
abbrev from : ℕ → ℕ → ℕ → List Child → List Child
from w k c rest = cond (eqb (number_at k c) 0) [] (child_of (number_at k c) (child_at (number_at k (c + 1)) w) ∷ rest)

-- operand i of the 40 bits w of tag k, and those after it
unfoldable pub operands_from : ℕ → ℕ → ℕ → List Child
operands_from w k zero = from w k 4 (from w k 6 (from w k 8 []))
operands_from w k (suc zero) = from w k 6 (from w k 8 [])
operands_from w k (suc (suc zero)) = from w k 8 []
operands_from w k (suc (suc (suc i))) = []

module _ (w k : ℕ) where
  pub all_operands : children_by_row w k ≡ operands_from w k 0
  unfolding children_by_row operands_from
  all_operands = refl

  pub none_left : (i : ℕ) → 3 < i + 1 → operands_from w k i ≡ []
  unfolding operands_from
  none_left zero h = absurd (omega arith)
  none_left (suc zero) h = absurd (omega arith)
  none_left (suc (suc zero)) h = absurd (omega arith)
  none_left (suc (suc (suc i))) h = refl

  pub absent : (i : ℕ) → i < 3 → number_at k (4 + 2 * i) ≡ 0 → operands_from w k i ≡ []
  unfolding operands_from
  absent zero h e = rw (eq-eqb (number_at k 4) 0 e)
  absent (suc zero) h e = rw (eq-eqb (number_at k 6) 0 e)
  absent (suc (suc zero)) h e = rw (eq-eqb (number_at k 8) 0 e)
  absent (suc (suc (suc i))) h e = absurd (omega arith)

  abbrev pub operand : ℕ → Child
  operand i = child_of (number_at k (4 + 2 * i)) (child_at (number_at k (4 + 2 * i + 1)) w)

  present : (i : ℕ) → i < 3 → (number_at k (4 + 2 * i) ≡ 0 → ⊥) → operands_from w k i ≡ (operand i ∷ operands_from w k (i + 1))
  unfolding operands_from
  present zero h e = rw (ne_eqb (number_at k 4) 0 e)
  present (suc zero) h e = rw (ne_eqb (number_at k 6) 0 e)
  present (suc (suc zero)) h e = rw (ne_eqb (number_at k 8) 0 e)
  present (suc (suc (suc i))) h e = absurd (omega arith)

  module _ (i : ℕ) (h : i < 3) (e : number_at k (4 + 2 * i) ≡ 0 → ⊥) where
    -- one operand named, then the others
    pub lower_step : (words : List ℕ) (least r all : ℕ) → r ≡ lower_all words (operand i ∷ []) least → all ≡ lower_all words (operands_from w k i) least
        → all ≡ lower_all words (operands_from w k (i + 1)) r
    lower_step words least r all p q =
        q ∙ ap (λ (ks : List Child). lower_all words ks least) (present i h e)
        ∙ sym (lower_more words (operand i) (operands_from w k (i + 1)) least r _ p refl)

    pub count_step : (before after all : List ℕ) → after ≡ count_all (operand i ∷ []) before → all ≡ count_all (operands_from w k i) before
        → all ≡ count_all (operands_from w k (i + 1)) after
    count_step before after all p q =
        q ∙ ap (λ (ks : List Child). count_all ks before) (present i h e)
        ∙ sym (count_more (operand i) (operands_from w k (i + 1)) before after _ p refl)

-- all operands named: where none is left, these are the term's children
module _ (words : List ℕ) (t k i : ℕ) (none : operands_from (get_or words t 0) k i ≡ []) where
  pub named_all : (best least : ℕ) (before after : List ℕ) → k ≡ tag_of (get_or words t 0) → k < tag_count
      → lower_all words (children_by_row (get_or words t 0) k) best ≡ lower_all words (operands_from (get_or words t 0) k i) least
      → count_all (children_by_row (get_or words t 0) k) before ≡ count_all (operands_from (get_or words t 0) k i) after
      → (least ≡ lower_all words (children_of (node_in words t)) best) × (after ≡ count_all (children_of (node_in words t)) before)
  unfolding lower_all count_all
  named_all best least before after e h p q =
      named_by_row words t k best least before after (children_by_row (get_or words t 0) k) e h refl
      (sym (p ∙ ap (λ (ks : List Child). lower_all words ks least) none))
      (sym (q ∙ ap (λ (ks : List Child). count_all ks after) none))
