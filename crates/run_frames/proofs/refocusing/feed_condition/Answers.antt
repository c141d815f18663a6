-- `feed_condition` meets its contract. Assumes nothing.
use borrow.Enum.Refused.{opened}
use mathlib.Core.Path.{sym, ◌∙◌}
use borrow.Author.Tests.{eq-eqb, ne_eqb}
use Rattle.run_frames.specs.Inner.Going.{feed_condition_of}
use Rattle.run_frames.proofs.Others.{feed_condition_other}
use borrow.Author.Rules.{rules}
use Rattle.run_frames.proofs.refocusing.feed_condition.Goals as goal

pub returns-then-truth-eq1 : goal.returns-then-truth-eq1
unfolding feed_condition_of
returns-then-truth-eq1 c = simp (c.at.ensures, c.ready_of.ensures, c.in-And.is, eq-eqb _ _ c.if-truth-eq1.true)

pub returns-then-truth-eq1-2 : goal.returns-then-truth-eq1-2
unfolding feed_condition_of
returns-then-truth-eq1-2 c = simp (c.truth.ensures, c.in-Not.is, eq-eqb _ _ c.if-truth-eq1-2.true)

pub returns-else-truth-eq1 : goal.returns-else-truth-eq1
unfolding feed_condition_of
returns-else-truth-eq1 c = simp (c.at-in-And.ensures, c.ready_of-in-And.ensures, c.in-And.is, ne_eqb _ _ c.if-truth-eq1.false)

pub returns-else-truth-eq1-2 : goal.returns-else-truth-eq1-2
unfolding feed_condition_of
returns-else-truth-eq1-2 c = simp (c.at-in-Not.ensures, c.ready_of-in-Not.ensures, c.in-Not.is, ne_eqb _ _ c.if-truth-eq1-2.false)

pub returns-in_default : goal.returns-in_default
unfolding feed_condition_of
returns-in_default c = c.feed_if.ensures
    ∙ sym (feed_condition_other c.args.frame.kind c.args.frame c.args.truth
    (opened c.in_default.in_default-own.keys3))
