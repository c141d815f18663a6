-- `first_head` meets its contract. Assumes nothing.
use borrow.Author.Rules.{rules}
use Rattle.run_engine.proofs.first_head.Goals as goal

pub returns : goal.returns
returns c = simp (c.zero-one.ensures.exact, c.ready_of-call.ensures)
