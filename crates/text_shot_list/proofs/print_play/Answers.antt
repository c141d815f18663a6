-- `text_shot_list::print_play` meets its contract: what `play` ensures of its answer and of the log area, which begins with the run's records. Assumes nothing.
use Prim.Native.Nat.{◌-◌}
use native.Mathlib.Omega.{arith}
use lib.ListN.{length-take}
use Rattle.play.proofs.Ran.{few_records, within}
use Rattle.text_shot_list.specs.Printed.{lent_area}
use Rattle.text.proofs.Added.{added_as}
use Rattle.text_shot_list.proofs.Answers.{refused_text, ran_text}
use Rattle.text_shot_list.proofs.print_play.Goals as goal

pub record_bytes-end-requires : goal.record_bytes-end-requires
unfolding lent_area
record_bytes-end-requires c =
    let a = c.args in
    let p = c.play-played in
    let e = c.in-Ok.is in
    few_records a.plan.now a.schedule.now lent_area p.result p.ensures.answer e

pub slice_bounds-put_run-end : goal.slice_bounds-put_run-end
unfolding lent_area
slice_bounds-put_run-end c =
    let a = c.args in
    let p = c.play-played in
    let e = c.in-Ok.is in
    let r = c.record_bytes-end in
    within a.plan.now a.schedule.now lent_area p.result p.ensures.answer e p.new.log p.ensures.area r.result
    (omega (arith, r.ensures))

pub put_run-requires : goal.put_run-requires
unfolding lent_area
put_run-requires c =
    let a = c.args in
    let p = c.play-played in
    let e = c.in-Ok.is in
    let r = c.record_bytes-end in
    let few = few_records a.plan.now a.schedule.now lent_area p.result p.ensures.answer e in
    (omega (arith, few, r.ensures, length-take (r.result - 0) p.new.log), omega arith)

pub returns-in-Err : goal.returns-in-Err
unfolding lent_area
returns-in-Err c =
    let a = c.args in
    let p = c.play-played in
    added_as (refused_text a.plan.now a.schedule.now p.result p.ensures.answer c.in-Err.refusal c.in-Err.is) c.put_refusal.ensures

pub returns-in-Ok : goal.returns-in-Ok
unfolding lent_area
returns-in-Ok c =
    let a = c.args in
    let p = c.play-played in
    let e = c.in-Ok.is in
    let r = c.record_bytes-end in
    added_as (ran_text a.plan.now a.schedule.now p.result p.ensures.answer e p.new.log p.ensures.area r.result r.ensures)
    c.put_run.ensures
