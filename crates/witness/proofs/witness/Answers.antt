-- `witness` meets its contract: what refuses, in its order, else what a run comes to. Assumes nothing.
use mathlib.Core.Path.{◌≡◌, refl, sym, ap, ◌∙◌}
use mathlib.Core.Option.{none}
use Rattle.std.specs.Prelude.{Ok}
use Rattle.std.proofs.lemmas.Result.{err_from_is_err_and}
use Rattle.plan_refusals.specs.Answer as check
use Rattle.plan_refusals.proofs.Stages.{passed_none}
use Rattle.rules.specs.Play.{schedule_refusal}
use Rattle.run_refusals.proofs.Passed.{scheduled}
use Rattle.witness.specs.Witness.{refused}
use Rattle.plan_left_out.specs.Inner.Loads.{Loads}
use Rattle.witness.proofs.Refusals.{by_schedule, by_15}
use Rattle.witness.proofs.witness.Goals as goal
use Rattle.witness.proofs.witness.Goals.{In_ok-schedule_refusal}

pub returns-in_err-schedule_refusal : goal.returns-in_err-schedule_refusal
unfolding check.answered
returns-in_err-schedule_refusal c =
    let p = err_from_is_err_and c.from_residual.result c.from_residual.ensures.1 in
    rw (p.1, p.2) (refused (by_schedule _ _ _ (sym c.in_err-schedule_refusal.ensures.result_value)))

none_refuses : (c : In_ok-schedule_refusal) → schedule_refusal c.args.plan.now c.args.schedule.now ≡ none
none_refuses c = passed_none _ (Ok tt) c.in_ok-schedule_refusal.ensures.result_value refl

loads : (c : In_ok-schedule_refusal) → Loads c.args.plan.now c.schedule_refusal.new.words
loads c = record { passes = (scheduled _ _ (none_refuses c)).plan_passes; loaded = c.in_ok-schedule_refusal.ensures.loaded }

pub left_out-requires : goal.left_out-requires
left_out-requires c = loads (goal.at.left_out-requires c).In_ok-schedule_refusal

pub returns-then-left_out : goal.returns-then-left_out
returns-then-left_out c =
    let s = none_refuses (goal.at.returns-then-left_out c).In_ok-schedule_refusal in
    rw c.at.ensures (refused (by_15 _ _ s (sym c.left_out.ensures ∙ c.if-left_out.true)))

pub from_run-requires : goal.from_run-requires
from_run-requires c =
    let k = (goal.at.from_run-requires c).In_ok-schedule_refusal in
    record { loads = loads k; scheduled = none_refuses k; not_left_out = sym c.left_out.ensures ∙ c.if-left_out.false }
