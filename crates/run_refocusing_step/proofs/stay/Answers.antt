-- `stay` meets its contract. Assumes nothing.
use borrow.Author.Rules.{rules}
use Rattle.run_refocusing_step.proofs.stay.Goals as goal

pub returns : goal.returns
returns c = simp c.frame_of-frame.ensures
