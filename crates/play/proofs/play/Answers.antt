-- `play` meets its contract. Assumes nothing.
use mathlib.Core.Path.{◌∙◌}
use borrow.Author.Rules.{rules}
use Rattle.plan_refusals.proofs.Stages.{passed_refused}
use Rattle.play.proofs.Entry.{refused_answer, refused_area, given, ran_answer, ran_area}
use Rattle.play.proofs.Executed.{ran_whole}
use Rattle.play.proofs.play.Goals as goal

pub returns-in_default : goal.returns-in_default
returns-in_default c =
    let a = c.args in
    let h = c.refusal-checked.ensures.refused_as in
    let e = c.in_default.is in
    record {
      answer = refused_answer a.plan.now a.schedule.now a.log.now _ h _ e c.refused.result c.refused.ensures.checked_value;
      area = refused_area a.plan.now a.schedule.now a.log.now _ h _ e;
      refused = λ r q. c.refused.ensures.outcome_value;
      executed = λ q. passed_refused q (c.refused.ensures.checked_value ∙ e);
    }

pub run-ran-requires : goal.run-ran-requires
run-ran-requires c =
    let a = c.args in
    let x = c.refusal-checked in
    given a.plan.now a.schedule.now a.log.now _ x.ensures.refused_as c.in-Ok.is _ (search rules)

pub returns : goal.returns
returns c =
    let a = c.args in
    let x = c.refusal-checked in
    let e = c.in-Ok.is in
    let r = c.run-ran in
    let all = ran_whole a.plan.now a.schedule.now a.log.now _ _ e
    (ran_answer a.plan.now a.schedule.now a.log.now _ x.ensures.refused_as e r.result _ r.ensures)
    (ran_area a.plan.now a.schedule.now a.log.now _ x.ensures.refused_as e r.result _ r.ensures) in
    record { answer = all.0; area = all.1.0; refused = all.1.1.0; executed = all.1.1.1 }
