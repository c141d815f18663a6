-- `check` meets its contract: the words come as zeros. Assumes nothing.
use mathlib.Core.Path.{refl}
use Rattle.plan.proofs.check.Goals as goal

pub load-requires : goal.load-requires
load-requires c = refl

pub returns : goal.returns
returns c = c.load.ensures.result_value
