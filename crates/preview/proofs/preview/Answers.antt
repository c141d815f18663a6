-- `preview` meets its contract. Assumes nothing.
use mathlib.Core.Path.{refl, ◌∙◌}
use Rattle.std.specs.Prelude.{Ok, Err}
use Rattle.std.proofs.lemmas.Result.{err_from_is_err_and}
use Rattle.preview.proofs.Entry.{whole, refused_answer, given, shown_answer}
use Rattle.preview.proofs.preview.Goals as goal

pub shown-requires : goal.shown-requires
shown-requires c =
    let a = c.args in
    let x = c.in_ok-refusal_with.ensures in
    given a.plan.now a.schedule.now a.pick (Ok tt) x.result_value refl _ x.loaded

pub returns-in_err-refusal_with : goal.returns-in_err-refusal_with
returns-in_err-refusal_with c =
    let a = c.args in
    let p = err_from_is_err_and c.from_residual.result c.from_residual.ensures.1 in
    let all = whole a.plan.now a.schedule.now a.pick (Err _)
    (refused_answer a.plan.now a.schedule.now a.pick _ c.in_err-refusal_with.ensures.result_value _ refl) tt in
    rw (p.1, p.2) (record { answer = all.0; plays = all.1.0; logged = all.1.1 })

pub returns : goal.returns
returns c =
    let a = c.args in
    let s = c.shown.ensures in
    let all = whole a.plan.now a.schedule.now a.pick (Ok c.shown.result)
    (shown_answer a.plan.now a.schedule.now a.pick (Ok tt) c.in_ok-refusal_with.ensures.result_value refl c.shown.result s) s.logged in
    record { answer = all.0; plays = all.1.0; logged = all.1.1 }
