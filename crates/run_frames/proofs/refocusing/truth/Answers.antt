-- `truth` meets its contract. Assumes nothing.
use borrow.Author.Rules.{rules}
use Rattle.run_frames.proofs.refocusing.truth.Goals as goal

pub returns : goal.returns
returns c = simp (c.go_of.ensures, c.frame_of.ensures)
