-- `refusal` meets its contract. Assumes nothing.
use mathlib.Core.Path.{refl}
use Rattle.std.proofs.lemmas.Result.{err_from_is_err_and}
use Rattle.run_refusals.proofs.RefusalChain.{by_schedule, by_area}
use Rattle.run_refusals.proofs.Passed.{scheduled_by_code}
use Rattle.run_refusals.proofs.refusal.Goals as goal

pub returns-in_err-schedule_refusal-clause-refused_as : goal.returns-in_err-schedule_refusal-clause-refused_as
returns-in_err-schedule_refusal-clause-refused_as c =
    let p = err_from_is_err_and c.from_residual.result c.from_residual.ensures.1 in
    rw (p.1, p.2) (λ a e. by_schedule _ _ a _ _ c.in_err-schedule_refusal.ensures.result_value refl)

-- the schedule is short
pub area_refusal-requires : goal.area_refusal-requires
area_refusal-requires c = (scheduled_by_code _ _ _ c.in_ok-schedule_refusal.ensures.result_value refl).few

pub returns-clause-refused_as : goal.returns-clause-refused_as
returns-clause-refused_as c a e =
    by_area _ _ a _ c.area_refusal.result c.in_ok-schedule_refusal.ensures.result_value refl (c.area_refusal.ensures _ a refl e)
