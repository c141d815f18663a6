-- `lengths::digits_to` meets its contract. Assumes nothing.
use Rattle.waveform.specs.Inner.Lengths.{digits_to}
use borrow.Author.Rules.{rules}
use Rattle.waveform.proofs.lengths.digits_to.Goals as goal

pub returns : goal.returns
unfolding digits_to
returns c = (search rules, search rules)
