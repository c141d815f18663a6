-- `no_refocusing` meets its contract. Assumes nothing.
use borrow.Author.Rules.{rules}
use Rattle.run_refocusing.proofs.no_refocusing.Goals as goal

pub returns : goal.returns
returns c = simp (c.end_at.ensures, c.full.ensures)
