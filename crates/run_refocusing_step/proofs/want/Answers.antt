-- `want` meets its contract. Assumes nothing.
use borrow.Author.Tests.{lt-ltb, le-ltb}
use Rattle.run_refocusing_step.specs.Inner.Down.{want_of, want_by}
use borrow.Author.Rules.{rules}
use Rattle.run_refocusing_step.proofs.want.Goals as goal

pub returns-then-value-lt32 : goal.returns-then-value-lt32
unfolding want_of want_by
returns-then-value-lt32 c = rw (← c.value-value.ensures) (simp (c.stay.ensures, c.feed.ensures, lt-ltb _ _ c.if-value-lt32.true))

pub returns : goal.returns
unfolding want_of want_by
returns c = rw (← c.value-value.ensures) (simp (c.push.ensures, c.run.ensures, le-ltb _ _ c.if-value-lt32.false))
