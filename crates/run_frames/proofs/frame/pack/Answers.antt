-- `pack` meets its contract. Assumes nothing.
use Rattle.run_frames.specs.Inner.Frames.{pack_of}
use borrow.Author.Rules.{rules}
use Rattle.run_frames.proofs.frame.pack.Goals as goal

pub returns : goal.returns
unfolding pack_of
returns c = simp c.code-code.ensures.0
