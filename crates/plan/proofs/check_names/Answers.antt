-- `check_names`: what the notes show, or the checks that found nothing and the first that found something, make the answer of the definition.
use mathlib.Core.Path.{◌≡◌, refl, sym, ◌∙◌}
use mathlib.Core.Option.{some, none}
use native.Mathlib.Omega.{arith}
use Rattle.format.specs.Refusal.{lowest, refuse, first_refusal}
use Rattle.format.specs.Inner.Lowest.{Lowest}
use Rattle.format.proofs.LowestLaws.{found_none, missed, struck}
use Rattle.plan_packed.specs.Format.{terms}
use Rattle.plan_packed.specs.Refusals.{wrongly_sorted, not_named_once}
use Rattle.plan_packed.specs.Check.{checks}
use Rattle.plan_packed.proofs.NameLaws.{all_names}
use Rattle.plan_refusals.specs.Answer.{answered}
use Rattle.plan_refusals.proofs.Stages.{told}
use Rattle.plan.proofs.check_names.Goals as goal
use Rattle.plan.proofs.check_names.Goals.{After-lowest_miscounted-miscounted}

pub returns-then-all_fit : goal.returns-then-all_fit
unfolding answered refuse first_refusal checks
returns-then-all_fit c =
    let b = c.args.plan.now in
    let n = c.requires.right.headed.sized.terms_are in
    let fits = c.all_fit.ensures c.if-all_fit.true in
    let m5 : lowest (wrongly_sorted b) (terms b) ≡ none =
    missed (wrongly_sorted b) _ (terms b) _ n
    (found_none (wrongly_sorted b) c.args.count c.args.count (omega arith) (omega arith) (λ t h. (fits t h).0)) (omega arith) in
    let m6 : lowest (not_named_once b) (terms b) ≡ none =
    missed (not_named_once b) _ (terms b) _ n
    (found_none (not_named_once b) c.args.count c.args.count (omega arith) (omega arith) (λ t h. (fits t h).1)) (omega arith) in
    sym (rw (m5, m6))

-- the lowest term that is not named once
named_once : (c : After-lowest_miscounted-miscounted)
    → Lowest (not_named_once c.args.plan.now)
    c.args.count c.lowest_miscounted-miscounted.result
named_once c =
    let h = c.requires.right.headed in
    all_names _ _ _ _ h.sized.terms_are h.few c.name_all-misplaced.ensures.counted c.lowest_miscounted-miscounted.ensures

pub name_all-misplaced-requires : goal.name_all-misplaced-requires
name_all-misplaced-requires c = record { right = c.requires.right; loaded = c.requires.loaded; times_value = refl; rows_value = c.requires.rows_value }

pub lowest_miscounted-miscounted-requires : goal.lowest_miscounted-miscounted-requires
lowest_miscounted-miscounted-requires c = c.requires.right.headed.few

pub returns-then-misplaced-count : goal.returns-then-misplaced-count
unfolding answered refuse first_refusal checks
returns-then-misplaced-count c =
    let b = c.args.plan.now in
    let m5 : lowest (wrongly_sorted b) (terms b) ≡ some c.name_all-misplaced.result =
    struck (wrongly_sorted b) _ (terms b) _ c.requires.right.headed.sized.terms_are c.name_all-misplaced.ensures.lowest c.if-misplaced-count.true in
    told c.at.ensures ∙ sym (rw m5)

pub returns-then-miscounted-count : goal.returns-then-miscounted-count
unfolding answered refuse first_refusal checks
returns-then-miscounted-count c =
    let b = c.args.plan.now in
    let n = c.requires.right.headed.sized.terms_are in
    let m5 : lowest (wrongly_sorted b) (terms b) ≡ none =
    missed (wrongly_sorted b) _ (terms b) _ n c.name_all-misplaced.ensures.lowest c.if-misplaced-count.false in
    let m6 : lowest (not_named_once b) (terms b) ≡ some c.lowest_miscounted-miscounted.result =
    struck (not_named_once b) _ (terms b) _ n (named_once (goal.at.returns-then-miscounted-count c).After-lowest_miscounted-miscounted) c.if-miscounted-count.true in
    told c.at-then-miscounted-count.ensures ∙ sym (rw (m5, m6))

pub returns : goal.returns
unfolding answered refuse first_refusal checks
returns c =
    let b = c.args.plan.now in
    let n = c.requires.right.headed.sized.terms_are in
    let m5 : lowest (wrongly_sorted b) (terms b) ≡ none =
    missed (wrongly_sorted b) _ (terms b) _ n c.name_all-misplaced.ensures.lowest c.if-misplaced-count.false in
    let m6 : lowest (not_named_once b) (terms b) ≡ none = missed (not_named_once b) _ (terms b) _ n (named_once (goal.at.returns c).After-lowest_miscounted-miscounted) c.if-miscounted-count.false in
    sym (rw (m5, m6))
