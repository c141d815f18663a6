-- `text_shot_list::shot_list` meets its contract. Assumes nothing.
use native.Mathlib.Omega.{arith}
use mathlib.Core.Path.{refl, sym, ◌∙◌}
use Rattle.text_shot_list.proofs.Inputs.{cut_text, parts_text, finished}
use Rattle.text_shot_list.proofs.shot_list.Goals as goal

pub returns-then-area-lt131072 : goal.returns-then-area-lt131072
returns-then-area-lt131072 c = (λ q. absurd (omega arith), λ q. (refl, refl))

pub put_refusal-requires : goal.put_refusal-requires
put_refusal-requires c = omega arith

pub returns-then-cut_short : goal.returns-then-cut_short
returns-then-cut_short c =
    let a = c.args in
    let cut = sym c.cut_short.ensures ∙ c.if-cut_short.true in
    finished a.input.now (omega arith) (cut_text a.input.now cut) (rw c.at.ensures at c.put_refusal.ensures)

pub plan_of-plan-requires : goal.plan_of-plan-requires
plan_of-plan-requires c = sym c.cut_short.ensures ∙ c.if-cut_short.false

pub schedule_of-schedule-requires : goal.schedule_of-schedule-requires
schedule_of-schedule-requires c = sym c.cut_short.ensures ∙ c.if-cut_short.false

pub returns : goal.returns
returns c =
    let a = c.args in
    let cut = sym c.cut_short.ensures
    ∙ c.if-cut_short.false in
    let plan = c.plan_of-plan.ensures in
    let schedule = c.schedule_of-schedule.ensures in
    finished a.input.now (omega arith) (parts_text a.input.now cut plan schedule) c.print_play.ensures
