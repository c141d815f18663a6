-- `ruqzhemil::ruqzhemil_judge` meets its contract: the number of what `judge::judge` answers. Assumes nothing.
use Rattle.ruqzhemil.proofs.Judged.{small_judged}
use Rattle.judge.specs.Answer.{answered}
use borrow.Author.Rules.{rules}
use Rattle.ruqzhemil.proofs.ruqzhemil_judge.Goals as goal

pub of_judge-requires : goal.of_judge-requires
of_judge-requires c = small_judged _ _ _ c.judge-judgement.ensures

pub returns : goal.returns
returns c = record { answer = answered c.judge-judgement.result; answers = c.judge-judgement.ensures; numbered = c.of_judge.ensures }
