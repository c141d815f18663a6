-- `advance` meets its contract. Assumes nothing.
use Rattle.std.proofs.Common.{rules, refl}
use Rattle.interleavings.proofs.Counting.{at_end, stands_next}
use Rattle.interleavings.proofs.advance.Goals as goal

pub returns-in_err-length : goal.returns-in_err-length
returns-in_err-length c = rw c.from_residual.ensures (at_end c.requires _ _ c.in_err-length.ensures)

pub returns : goal.returns
returns c = stands_next c.requires _ _ _ c.in_ok-length.ensures _ c.put_word.result c.put_word.ensures
