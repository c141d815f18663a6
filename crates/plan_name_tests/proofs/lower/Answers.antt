-- `lower`: by the sort of the tag and the comparison.
use mathlib.Core.Path.{◌≡◌, ap, sym, subst, ◌∙◌}
use mathlib.Core.Bool.{Bool, true, false, ◌&&◌, not, cond}
use Prim.Native.Nat.{ℕ, ◌<◌}
use lib.Dec.{eqb, ltb}
use borrow.Author.Rules.{rules}
use Rattle.plan_packed.specs.Format.{tag_count}
use Rattle.plan_packed.specs.Inner.Rows.{number_at}
use Rattle.plan_packed.specs.Inner.Steps.{wrong_sort, tag_in, lower_if}
use Rattle.plan_packed.proofs.RowLaws.{sort_is}
use Rattle.plan_name_tests.proofs.lower.Goals as goal
use Rattle.plan_name_tests.proofs.lower.Goals.{After-tag}

-- the choice, by the sort in the row of the tag
chosen : (own sort k index best : ℕ) (x : Bool) → k < tag_count → own ≡ number_at k 0 → (not (eqb own sort) && ltb index best) ≡ x
    → cond x index best ≡ lower_if (wrong_sort sort k) index best
unfolding wrong_sort
chosen own sort k index best x h e q =
    sym (ap (λ (y : Bool). cond y index best) (ap (λ (j : ℕ). not (eqb j sort) && ltb index best) (sym (e ∙ sort_is k h)) ∙ q))

-- the tag is one of the table
small : (c : After-tag) → c.tag.result < tag_count
unfolding tag_in
small c = subst (λ (k : ℕ). k < tag_count) (sym c.tag.ensures) (c.requires.tagged c.args.index)

pub number-own-requires : goal.number-own-requires
number-own-requires c = record { rows_value = c.requires.rows_value; tag_lt_tag_count = (small c, search rules) }

pub returns-then-own-sort : goal.returns-then-own-sort
unfolding tag_in
returns-then-own-sort c =
    let a = c.args in
    chosen c.number-own.result a.sort c.tag.result a.index a.best true (small (goal.at.returns-then-own-sort c).After-tag) c.number-own.ensures c.if-own-sort.true
    ∙ ap (λ (k : ℕ). lower_if (wrong_sort a.sort k) a.index a.best) c.tag.ensures

pub returns-else-own-sort : goal.returns-else-own-sort
unfolding tag_in
returns-else-own-sort c =
    let a = c.args in
    chosen c.number-own.result a.sort c.tag.result a.index a.best false (small (goal.at.returns-else-own-sort c).After-tag) c.number-own.ensures c.if-own-sort.false
    ∙ ap (λ (k : ℕ). lower_if (wrong_sort a.sort k) a.index a.best) c.tag.ensures
