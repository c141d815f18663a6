-- `unpack` meets its contract. Assumes nothing.
use Rattle.run_frames.specs.Inner.Frames.{unpack_of}
use borrow.Author.Rules.{rules}
use Rattle.run_frames.proofs.frame.unpack.Goals as goal

pub returns : goal.returns
unfolding unpack_of
returns c = simp c.kind_of-kind.ensures
