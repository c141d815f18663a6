-- `no_head` meets its contract. Assumes nothing.
use borrow.Author.Rules.{rules}
use Rattle.run_pick.proofs.no_head.Goals as goal

pub returns : goal.returns
returns c = simp (c.new-keys.ensures.exact, c.ready_of-none.ensures)
