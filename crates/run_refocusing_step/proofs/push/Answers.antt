-- `push` meets its contract. Assumes nothing.
use borrow.Author.Tests.{lt-ltb, le-ltb}
use Rattle.run_refocusing_step.specs.Inner.Down.{push_of}
use borrow.Author.Rules.{rules}
use Rattle.run_refocusing_step.proofs.push.Goals as goal

pub returns-then-depth-lt32 : goal.returns-then-depth-lt32
unfolding push_of
returns-then-depth-lt32 c = simp (lt-ltb _ _ c.if-depth-lt32.true)

pub returns : goal.returns
unfolding push_of
returns c = simp (c.stay.ensures, c.full.ensures, le-ltb _ _ c.if-depth-lt32.false)
