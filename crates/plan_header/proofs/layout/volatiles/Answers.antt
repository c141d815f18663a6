-- `volatiles`: the 32 bits after the header.
use Rattle.plan_packed.specs.Format.{volatiles}
use Rattle.plan_header.proofs.layout.volatiles.Goals as goal

pub returns : goal.returns
unfolding volatiles
returns c = c.field.ensures
