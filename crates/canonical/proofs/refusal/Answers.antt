-- `refusal` meets its contract.
use mathlib.Core.Path.{refl}
use Rattle.std.proofs.lemmas.Result.{err_from_is_err_and}
use Rattle.canonical.proofs.Chain.{by_plan, by_area, by_none}
use Rattle.canonical.proofs.refusal.Goals as goal

pub returns-in_err-load-clause-refused_as : goal.returns-in_err-load-clause-refused_as
returns-in_err-load-clause-refused_as c a e =
    let p = err_from_is_err_and c.from_residual.result c.from_residual.ensures.1 in
    rw (p.1, p.2) (by_plan _ a _ _ c.in_err-load.ensures.result_value refl)

pub returns-then-area-plan-clause-refused_as : goal.returns-then-area-plan-clause-refused_as
returns-then-area-plan-clause-refused_as c a e =
    by_area _ a _ c.at.result c.in_ok-load.ensures.result_value refl (rw e c.if-area-plan.true) c.at.ensures

pub returns-clause-refused_as : goal.returns-clause-refused_as
returns-clause-refused_as c a e = by_none _ a _ c.in_ok-load.ensures.result_value refl (rw e c.if-area-plan.false)
