-- `ruqzhemil::ruqzhemil_witness` meets its contract: the number of what `witness::witness` answers, and its area. Assumes nothing.
use Rattle.answers.specs.Answer.{answered}
use Rattle.ruqzhemil.proofs.Witnessed.{small_witness}
use borrow.Author.Rules.{rules}
use Rattle.ruqzhemil.proofs.ruqzhemil_witness.Goals as goal

pub of_answer-requires : goal.of_answer-requires
of_answer-requires c = small_witness _ _ c.witness-answered.ensures

pub returns : goal.returns
returns c = let r = c.witness-answered in record { answer = answered r.result; answers = r.ensures; numbered = c.of_answer.ensures }
