-- `one_by_one` meets its contract. Assumes nothing.
use borrow.Author.Rules.{rules}
use Rattle.run_refocusing_step.proofs.one_by_one.Goals as goal

pub returns : goal.returns
returns c = simp (c.list.ensures, c.gather-gathered.ensures)
