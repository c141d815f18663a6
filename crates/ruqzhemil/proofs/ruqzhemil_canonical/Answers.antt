-- `ruqzhemil::ruqzhemil_canonical` meets its contract: the number of what `canonical::canonical` answers, and its area. Assumes nothing.
use Rattle.ruqzhemil.proofs.Tools.{small_canonical}
use Rattle.abi_convention.specs.Convention.{answer_number}
use mathlib.Core.Path.{ap, ◌∙◌}
use borrow.Author.Rules.{rules}
use Rattle.ruqzhemil.proofs.ruqzhemil_canonical.Goals as goal

pub of_answer-requires : goal.of_answer-requires
of_answer-requires c = rw c.canonical-answered.ensures.answer (small_canonical _ _)

pub returns : goal.returns
returns c = let r = c.canonical-answered.ensures in record { answer = c.of_answer.ensures ∙ ap answer_number r.answer; area = r.area }
