-- `call` meets its contract. Assumes nothing.
use borrow.Author.Rules.{rules}
use Rattle.run_refocusing_step.proofs.call.Goals as goal

pub returns : goal.returns
returns c = simp (c.at.ensures, c.ready_of.ensures, c.root-term.ensures)
