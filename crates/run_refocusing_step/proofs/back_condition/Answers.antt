-- `back_condition` meets its contract. Assumes nothing.
use borrow.Author.Tests.{eq-eqb, ne_eqb}
use Rattle.run_refocusing_step.specs.Inner.Down.{back_condition_of}
use borrow.Author.Rules.{rules}
use Rattle.run_refocusing_step.proofs.back_condition.Goals as goal

pub returns-then-depth-eq0 : goal.returns-then-depth-eq0
unfolding back_condition_of
returns-then-depth-eq0 c = simp (c.stay.ensures, c.at.ensures, c.ready_of.ensures, eq-eqb _ _ c.if-depth-eq0.true)

pub returns : goal.returns
unfolding back_condition_of
returns c = simp (c.stay-2.ensures, c.feed_condition.ensures, ne_eqb _ _ c.if-depth-eq0.false)
