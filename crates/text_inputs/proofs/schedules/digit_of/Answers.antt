-- `digit_of`: the code is its definition. Assumes nothing.
use borrow.Author.Tests.{lt-ltb, le-ltb}
use Rattle.text_inputs.specs.Schedules.{digit_of}
use Rattle.text_inputs.proofs.schedules.digit_of.Goals as goal

pub returns-then-pick-lt10 : goal.returns-then-pick-lt10
unfolding digit_of
returns-then-pick-lt10 c = simp (lt-ltb _ _ c.if-pick-lt10.true)

pub returns-else-pick-lt10 : goal.returns-else-pick-lt10
unfolding digit_of
returns-else-pick-lt10 c = simp (le-ltb _ _ c.if-pick-lt10.false)
