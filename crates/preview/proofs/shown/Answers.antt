-- `shown` meets its contract: one run of the schedule with the pick added. Assumes nothing.
use Prim.Native.Nat.{ℕ, ◌<◌}
use native.Mathlib.Omega.{arith}
use mathlib.Core.Path.{sym, ap, ◌∙◌, subst as along}
use mathlib.Core.List.{List, [], ◌∷◌}
use lib.ListN.{length-append}
use borrow.Author.Rules.{rules}
use Rattle.play.specs.Inner.RunOn.{Given, RunOn}
use Rattle.preview.specs.Preview.{with_pick}
use Rattle.preview.specs.Answer.{preview_of, LoggedAs}
use Rattle.preview.specs.Inner.Shown.{inner_log}
use Rattle.preview.proofs.Found.{one_of_eight, shown_found, last_given, written}
use Rattle.preview.proofs.shown.Goals as goal
use Rattle.preview.proofs.shown.Goals.{After-run-ran, Start}

small_pick : (c : Start) → c.args.pick < 8
small_pick c = one_of_eight c.args.plan.now c.args.schedule.now c.args.pick c.args.words.now inner_log c.requires

pub overflow_cast-pick : goal.overflow_cast-pick
overflow_cast-pick c = record { fits = omega (arith, small_pick (goal.at.overflow_cast-pick c).Start) }

pub add_pick-end-requires : goal.add_pick-end-requires
add_pick-end-requires c = let a =
    c.args in omega (arith, c.requires.few, length-append a.schedule.now (a.pick ∷ []))

pub run-ran-requires : goal.run-ran-requires
unfolding inner_log
run-ran-requires c =
    along (λ (ps : List ℕ). Given c.args.plan.now c.args.words.now ps inner_log)
    (sym (written c.add_pick-end.ensures)) c.requires

ran : (c : After-run-ran) → RunOn c.args.plan.now (with_pick c.args.schedule.now c.args.pick) inner_log c.run-ran.new.log c.run-ran.result
unfolding inner_log
ran c =
    along (λ (ps : List ℕ). RunOn c.args.plan.now ps inner_log c.run-ran.new.log c.run-ran.result)
    (written c.add_pick-end.ensures)
    c.run-ran.ensures

pub last_pick-requires : goal.last_pick-requires
last_pick-requires c =
    let a = c.args in
    last_given a.plan.now a.schedule.now a.pick a.words.now inner_log c.requires c.run-ran.result c.run-ran.new.log (ran (goal.at.last_pick-requires c).After-run-ran)

pub returns : goal.returns
returns c =
    let a = c.args in
    let f = shown_found a.plan.now a.schedule.now a.pick a.words.now inner_log c.requires c.run-ran.result c.run-ran.new.log
    (ran (goal.at.returns c).After-run-ran) in
    record { answer = ap preview_of c.last_pick.ensures ∙ f.answer; logged = along LoggedAs (sym c.last_pick.ensures) f.as_logged }
