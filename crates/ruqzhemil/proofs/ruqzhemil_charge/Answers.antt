-- `ruqzhemil::ruqzhemil_charge` meets its contract: the number of what `charge::charge` answers. Assumes nothing.
use Rattle.ruqzhemil.proofs.Tools.{small_charge}
use Rattle.abi_convention.specs.Convention.{answer_number}
use mathlib.Core.Path.{ap, ◌∙◌}
use borrow.Author.Rules.{rules}
use Rattle.ruqzhemil.proofs.ruqzhemil_charge.Goals as goal

pub of_answer-requires : goal.of_answer-requires
of_answer-requires c = rw c.charge-answered.ensures.answer (small_charge _ _ _)

pub returns : goal.returns
returns c = c.of_answer.ensures ∙ ap answer_number c.charge-answered.ensures.answer
