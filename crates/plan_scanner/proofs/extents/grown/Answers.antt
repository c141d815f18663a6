-- `grown` meets its contract. Assumes nothing.
use borrow.Author.Tests.{lt-ltb, le-ltb}
use Rattle.plan_notation.specs.Lexing.{grown}
use Rattle.plan_scanner.proofs.extents.grown.Goals as goal

pub returns-then-value-lt-SHORT : goal.returns-then-value-lt-SHORT
unfolding grown
returns-then-value-lt-SHORT c = simp (lt-ltb _ _ c.if-value-lt-SHORT.true, c.wide.ensures.0)

pub returns : goal.returns
unfolding grown
returns c = simp (le-ltb _ _ c.if-value-lt-SHORT.false)
