-- `schedule_refusal` meets its contract. Assumes nothing.
use mathlib.Core.Path.{refl}
use Rattle.std.proofs.lemmas.Result.{err_from_is_err_and}
use Rattle.run_refusals.proofs.RefusalChain.{by_plan, by_picks}
use Rattle.run_refusals.proofs.schedule_refusal.Goals as goal

pub returns-in_err-load-clause-result_value : goal.returns-in_err-load-clause-result_value
returns-in_err-load-clause-result_value c =
    let p = err_from_is_err_and c.from_residual.result c.from_residual.ensures.1 in
    rw (p.1, p.2) (by_plan _ _ _ _ c.in_err-load.ensures.result_value refl)

pub returns-clause-result_value : goal.returns-clause-result_value
returns-clause-result_value c = by_picks _ _ _ c.picks_refusal.result c.in_ok-load.ensures.result_value refl c.picks_refusal.ensures
