-- `lowest_wrong_with` meets its contract. Assumes nothing.
use borrow.Author.Rules.{rules}
use borrow.Author.Tests.{lt-ltb, le-ltb}
use Rattle.run_schedule_refusals.proofs.WithPick.{wrong_earlier, wrong_last, none_wrong}
use Rattle.run_schedule_refusals.proofs.lowest_wrong_with.Goals as goal

pub returns-then-wrong-schedule : goal.returns-then-wrong-schedule
returns-then-wrong-schedule c = let w = c.lowest_wrong_pick-wrong in wrong_earlier _ _ w.result w.ensures c.if-wrong-schedule.true

pub returns-then-pick-gt7 : goal.returns-then-pick-gt7
returns-then-pick-gt7 c = let w = c.lowest_wrong_pick-wrong in wrong_last _ _ w.result w.ensures c.if-wrong-schedule.false (lt-ltb 7 _ c.if-pick-gt7.true)

pub returns : goal.returns
returns c = let w = c.lowest_wrong_pick-wrong in none_wrong _ _ w.result w.ensures c.if-wrong-schedule.false (le-ltb 7 _ c.if-pick-gt7.false)
