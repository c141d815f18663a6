-- `bound`: the refusal of the check, or the answer to a plan that is loaded.
use mathlib.Core.Path.{refl}
use Rattle.std.proofs.lemmas.Result.{err_from_is_err_and}
use Rattle.plan_refusals.proofs.Stages.{passed_none}
use Rattle.bound.specs.NoMoreMoves.{NoMoreMoves}
use Rattle.bound.proofs.Answers.{by_check, no_more}
use Rattle.bound.proofs.Bodies.{long_enough}
use Rattle.bound.proofs.bound.Goals as goal

pub returns-in_err-load-clause-answer : goal.returns-in_err-load-clause-answer
returns-in_err-load-clause-answer c =
    let p = err_from_is_err_and c.from_residual.result c.from_residual.ensures.1 in
    rw (p.1, p.2) (by_check _ _ _ c.in_err-load.ensures.result_value refl)

pub returns-in_err-load-clause-most : goal.returns-in_err-load-clause-most
unfolding NoMoreMoves
returns-in_err-load-clause-most c =
    let p = err_from_is_err_and c.from_residual.result c.from_residual.ensures.1 in
    rw p.1 tt

pub procedures-procedures-requires : goal.procedures-procedures-requires
procedures-procedures-requires c = long_enough _ (passed_none _ _ c.in_ok-load.ensures.result_value refl)

pub terms-count-requires : goal.terms-count-requires
terms-count-requires c = long_enough _ (passed_none _ _ c.in_ok-load.ensures.result_value refl)

pub total_of-requires : goal.total_of-requires
total_of-requires c = record {
  loads = record {
    passes = passed_none _ _ c.in_ok-load.ensures.result_value refl;
    procedures_are = c.procedures-procedures.ensures;
    loaded = c.in_ok-load.ensures.loaded;
  };
  count_value = c.terms-count.ensures;
}

pub returns : goal.returns
returns c = record { answer = c.total_of.ensures; most = no_more _ _ c.total_of.ensures }
