-- `ruqzhemil::ruqzhemil_read` meets its contract: the number of what `read::read` answers, and its area. Assumes nothing.
use Rattle.ruqzhemil.proofs.ReadAnswers.{small_read}
use Rattle.abi_numbers.specs.Numbers.{read_number}
use mathlib.Core.Path.{ap, ◌∙◌}
use borrow.Author.Rules.{rules}
use Rattle.ruqzhemil.proofs.ruqzhemil_read.Goals as goal

pub of_read-requires : goal.of_read-requires
of_read-requires c = rw c.read-answer.ensures.answer (small_read _ _)

pub returns : goal.returns
returns c = let r = c.read-answer.ensures in record { answer = c.of_read.ensures ∙ ap read_number r.answer; area = r.area }
