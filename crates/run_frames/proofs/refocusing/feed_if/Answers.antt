-- `feed_if` meets its contract. Assumes nothing.
use borrow.Enum.Refused.{opened}
use mathlib.Core.Path.{sym, ◌∙◌}
use borrow.Author.Tests.{eq-eqb, ne_eqb}
use Rattle.run_frames.specs.Inner.Going.{feed_if_of}
use Rattle.run_frames.proofs.Others.{if_other}
use borrow.Author.Rules.{rules}
use Rattle.run_frames.proofs.refocusing.feed_if.Goals as goal

pub returns-then-truth-eq1 : goal.returns-then-truth-eq1
unfolding feed_if_of
returns-then-truth-eq1 c = simp (c.at.ensures, c.ready_of.ensures, c.in-If.is, eq-eqb _ _ c.if-truth-eq1.true)

pub returns-then-truth-eq1-2 : goal.returns-then-truth-eq1-2
unfolding feed_if_of
returns-then-truth-eq1-2 c = simp (c.at-then-truth-eq1-2.ensures, c.ready_of-then-truth-eq1-2.ensures, c.in-Test.is, eq-eqb _ _ c.if-truth-eq1-2.true)

pub returns-else-truth-eq1 : goal.returns-else-truth-eq1
unfolding feed_if_of
returns-else-truth-eq1 c = simp (c.at-in-If.ensures, c.ready_of-in-If.ensures, c.in-If.is, ne_eqb _ _ c.if-truth-eq1.false)

pub returns-else-truth-eq1-2 : goal.returns-else-truth-eq1-2
unfolding feed_if_of
returns-else-truth-eq1-2 c = simp (c.at-in-Test.ensures, c.ready_of-in-Test.ensures, c.in-Test.is, ne_eqb _ _ c.if-truth-eq1-2.false)

pub returns-in_default : goal.returns-in_default
unfolding feed_if_of
returns-in_default c = (simp (c.at-in_default.ensures, c.ready_of-in_default.ensures))
    ∙ sym (if_other c.args.frame.kind c.args.frame c.args.truth
    (opened c.in_default.in_default-own.keys3))
