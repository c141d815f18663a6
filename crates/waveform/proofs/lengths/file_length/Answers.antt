-- `lengths::file_length` meets its contract. Assumes nothing.
use native.Mathlib.Omega.{arith}
use mathlib.Core.Path.{sym, ap}
use Rattle.waveform.specs.Inner.Lengths.{length_for}
use Rattle.waveform.proofs.FileLength.{length_some}
use Rattle.waveform.proofs.lengths.file_length.Goals as goal

pub returns-then-count-eq0 : goal.returns-then-count-eq0
unfolding length_for
returns-then-count-eq0 c = sym (ap length_for c.if-count-eq0.true)

pub overflow_add-result-4 : goal.overflow_add-result-4
overflow_add-result-4 c = omega (arith, c.digits_to-2.ensures, c.digits_to.ensures)

pub returns : goal.returns
returns c = omega (arith, length_some c.args.count (omega arith), c.digits_to-2.ensures, c.digits_to.ensures)
