-- `ruqzhemil::ruqzhemil_first_interleaving` meets its contract: the number of what `interleavings::first_interleaving` answers, and its area. Assumes nothing.
use Rattle.answers.specs.Answer.{answered}
use Rattle.ruqzhemil.proofs.Interleavings.{small_first}
use borrow.Author.Rules.{rules}
use Rattle.ruqzhemil.proofs.ruqzhemil_first_interleaving.Goals as goal

pub of_answer-requires : goal.of_answer-requires
of_answer-requires c = small_first _ _ _ c.first_interleaving-answered.ensures

pub returns : goal.returns
returns c =
    let r = c.first_interleaving-answered in
    record { answer = answered r.result; answers = r.ensures; numbered = c.of_answer.ensures }
