-- `log_text` meets its contract. Assumes nothing.
use native.Mathlib.Omega.{arith}
use mathlib.Core.Path.{◌≡◌, ◌∙◌}
use Rattle.text.proofs.Added.{added_as}
use Rattle.text_run_words.proofs.Runs.{log_refused, log_few, log_told}
use borrow.Author.Rules.{rules}
use Rattle.text_run_words.proofs.told.log_text.Goals as goal

pub put_refusal-requires : goal.put_refusal-requires
put_refusal-requires c = omega (arith, c.play-played.auto.log, c.requires)

pub record_bytes-requires : goal.record_bytes-requires
record_bytes-requires c =
    let play = c.play-played in
    let a = c.args in
    let long = c.requires in
    log_few a.plan.now a.schedule.now a.area.now play.result play.ensures.answer long c.in-Ok.is

pub returns-in-Err : goal.returns-in-Err
returns-in-Err c =
    let k = c.in-Err in
    let play = c.play-played in
    let a = c.args in
    let long = c.requires in
    let t = log_refused a.plan.now a.schedule.now a.area.now play.result play.ensures.answer long _ k.is in
    let e = play.ensures.area ∙ t.1 in
    added_as t.0 (rw e at c.put_refusal.ensures)

pub returns-in-Ok : goal.returns-in-Ok
returns-in-Ok c =
    let play = c.play-played in
    let a = c.args in
    let long = c.requires in
    let ran = log_told a.plan.now a.schedule.now a.area.now play.result play.ensures.answer long c.in-Ok.is in
    ran _ c.record_bytes.ensures _ play.ensures.area
