-- `load`: the answer of the definition, stage by stage; where nothing is refused, the terms are loaded.
use mathlib.Core.Path.{◌≡◌, refl}
use mathlib.Core.Option.{some, none}
use native.Mathlib.Omega.{arith}
use Rattle.std.proofs.lemmas.Result.{err_from_is_err_and}
use Rattle.format.specs.Refusal.{lowest}
use Rattle.format.proofs.LowestLaws.{missed, struck}
use Rattle.plan_packed.specs.Format.{terms}
use Rattle.plan_packed.specs.Refusals.{wrong_term}
use Rattle.plan_packed.specs.Inner.Steps.{Headed}
use Rattle.plan_packed.proofs.Shown.{make_headed, make_right}
use Rattle.plan.proofs.Stages.{by_header, headed, by_term, by_trees}
use Rattle.plan.proofs.load.Goals as goal
use Rattle.plan.proofs.load.Goals.{After-terms-count}

-- what checks 1 to 3 have shown
shown : (c : After-terms-count) → Headed c.args.plan.now c.procedures-procedures.result c.terms-count.result
shown c = make_headed _ _ _ c.procedures-procedures.ensures c.terms-count.ensures (headed _ _ c.in_ok-check_header.ensures refl)

pub returns-in_err-check_header-clause-result_value : goal.returns-in_err-check_header-clause-result_value
returns-in_err-check_header-clause-result_value c =
    let p = err_from_is_err_and c.from_residual.result c.from_residual.ensures.1 in
    rw (p.1, p.2) (by_header _ _ _ c.in_err-check_header.ensures refl)

pub procedures-procedures-requires : goal.procedures-procedures-requires
procedures-procedures-requires c =
    let s = (make_headed c.args.plan.now _ _ refl refl (headed _ _ c.in_ok-check_header.ensures refl)).sized in
    omega (arith, s.long)

pub terms-count-requires : goal.terms-count-requires
terms-count-requires c =
    let s = (make_headed c.args.plan.now _ _ refl refl (headed _ _ c.in_ok-check_header.ensures refl)).sized in
    omega (arith, s.long)

pub name_roots-requires-clause-headed : goal.name_roots-requires-clause-headed
name_roots-requires-clause-headed c = shown (goal.at.name_roots-requires-clause-headed c).After-terms-count

pub hand_to_roots-requires-clause-headed : goal.hand_to_roots-requires-clause-headed
hand_to_roots-requires-clause-headed c = shown (goal.at.hand_to_roots-requires-clause-headed c).After-terms-count

pub load-term-requires-clause-headed : goal.load-term-requires-clause-headed
load-term-requires-clause-headed c = shown (goal.at.load-term-requires-clause-headed c).After-terms-count

pub returns-then-term-count-clause-result_value : goal.returns-then-term-count-clause-result_value
returns-then-term-count-clause-result_value c =
    let b = c.args.plan.now in
    let m4 : lowest (wrong_term b) (terms b) ≡ some c.load-term.result =
    struck (wrong_term b) _ (terms b) _ c.terms-count.ensures c.load-term.ensures.lowest c.if-term-count.true in
    by_term b _ c.in_ok-check_header.ensures refl _ _ m4 c.at.ensures

pub check_trees-requires-clause-right : goal.check_trees-requires-clause-right
check_trees-requires-clause-right c =
    let h = shown (goal.at.check_trees-requires-clause-right c).After-terms-count in
    make_right _ _ _ _ h c.load-term.ensures.lowest c.if-term-count.false

pub returns-clause-result_value : goal.returns-clause-result_value
returns-clause-result_value c =
    let b = c.args.plan.now in
    let m4 : lowest (wrong_term b) (terms b) ≡ none =
    missed (wrong_term b) _ (terms b) _ c.terms-count.ensures c.load-term.ensures.lowest c.if-term-count.false in
    by_trees b _ c.in_ok-check_header.ensures refl _ m4 c.check_trees.ensures
