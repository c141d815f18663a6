-- `ruqzhemil::ruqzhemil_comtrade` meets its contract: the number of what `waveform::comtrade` answers, and its area. Assumes nothing.
use Rattle.ruqzhemil.proofs.Tools.{small_comtrade}
use Rattle.abi_convention.specs.Convention.{answer_number}
use mathlib.Core.Path.{ap, ◌∙◌}
use borrow.Author.Rules.{rules}
use Rattle.ruqzhemil.proofs.ruqzhemil_comtrade.Goals as goal

pub of_answer-requires : goal.of_answer-requires
of_answer-requires c = rw c.comtrade-answered.ensures.answer (small_comtrade _ _)

pub returns : goal.returns
returns c = let r = c.comtrade-answered.ensures in record { answer = c.of_answer.ensures ∙ ap answer_number r.answer; area = r.area }
