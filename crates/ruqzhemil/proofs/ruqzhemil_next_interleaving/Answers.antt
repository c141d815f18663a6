-- `ruqzhemil::ruqzhemil_next_interleaving` meets its contract: the number of what `interleavings::next_interleaving` answers, and its area. Assumes nothing.
use Rattle.interleavings.specs.Answer.{answered}
use Rattle.ruqzhemil.proofs.Interleavings.{small_next}
use borrow.Author.Rules.{rules}
use Rattle.ruqzhemil.proofs.ruqzhemil_next_interleaving.Goals as goal

pub of_next-requires : goal.of_next-requires
of_next-requires c = small_next _ _ _ _ c.next_interleaving-next.ensures

pub returns : goal.returns
returns c =
    let r = c.next_interleaving-next in record { answer = answered r.result; answers = r.ensures; numbered = c.of_next.ensures }
