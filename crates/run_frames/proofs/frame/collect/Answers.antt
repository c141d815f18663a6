-- `collect` meets its contract. Assumes nothing.
use borrow.Author.Rules.{rules}
use Rattle.run_frames.proofs.frame.collect.Goals as goal

pub returns : goal.returns
returns c = simp c.bind-more.ensures
