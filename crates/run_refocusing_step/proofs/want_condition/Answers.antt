-- `want_condition` meets its contract. Assumes nothing.
use borrow.Author.Tests.{lt-ltb, le-ltb}
use Rattle.run_refocusing_step.specs.Inner.Down.{want_condition_of, want_condition_by}
use borrow.Author.Rules.{rules}
use Rattle.run_refocusing_step.proofs.want_condition.Goals as goal

pub returns-then-truth-lt2 : goal.returns-then-truth-lt2
unfolding want_condition_of want_condition_by
returns-then-truth-lt2 c = rw (← c.truth-truth.ensures)
    (simp (c.stay.ensures, c.feed_condition.ensures, lt-ltb _ _ c.if-truth-lt2.true))

pub returns : goal.returns
unfolding want_condition_of want_condition_by
returns c = rw (← c.truth-truth.ensures)
    (simp (c.push.ensures, c.run_condition.ensures, le-ltb _ _ c.if-truth-lt2.false))
