-- `ruqzhemil::ruqzhemil_show` meets its contract: the number of what `show::show` answers, and its area. Assumes nothing.
use Rattle.ruqzhemil.proofs.Shown.{small_show}
use Rattle.abi_convention.specs.Convention.{answer_number}
use mathlib.Core.Path.{ap, ◌∙◌}
use borrow.Author.Rules.{rules}
use Rattle.ruqzhemil.proofs.ruqzhemil_show.Goals as goal

pub of_answer-requires : goal.of_answer-requires
of_answer-requires c = rw c.show-answered.ensures.answer (small_show _ _)

pub returns : goal.returns
returns c = let r = c.show-answered.ensures in record { answer = c.of_answer.ensures ∙ ap answer_number r.answer; area = r.area }
