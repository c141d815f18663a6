-- `pick_at` meets its contract. Assumes nothing.
use borrow.Author.Rules.{rules}
use borrow.Author.Tests.{lt-ltb, le-ltb}
use Rattle.run_engine.proofs.pick_at.Goals as goal

pub returns-then-place-picks : goal.returns-then-place-picks
returns-then-place-picks c = simp (lt-ltb _ _ c.if-place-picks.true) c.wide.ensures.0

pub returns : goal.returns
returns c = simp (le-ltb _ _ c.if-place-picks.false)
