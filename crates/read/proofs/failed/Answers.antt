-- `failed` meets its contract. Assumes nothing.
use Rattle.read.proofs.Answers.{failed_is}
use Rattle.read.proofs.failed.Goals as goal

pub returns : goal.returns
returns c = failed_is _ _ _ _ c.place-spot.ensures
