-- `ruqzhemil::ruqzhemil_bound` meets its contract: the number of what `bound::bound` answers. Assumes nothing.
use Rattle.ruqzhemil.proofs.Tools.{small_bound}
use Rattle.abi_convention.specs.Convention.{answer_number}
use mathlib.Core.Path.{ap, ◌∙◌}
use borrow.Author.Rules.{rules}
use Rattle.ruqzhemil.proofs.ruqzhemil_bound.Goals as goal

pub of_answer-requires : goal.of_answer-requires
of_answer-requires c = rw c.bound-answered.ensures.answer (small_bound _)

pub returns : goal.returns
returns c = c.of_answer.ensures ∙ ap answer_number c.bound-answered.ensures.answer
