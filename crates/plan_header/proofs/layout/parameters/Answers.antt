-- `parameters`: the first four bits of a procedure's 16.
use Rattle.plan_packed.specs.Format.{parameters}
use Rattle.plan_header.proofs.layout.parameters.Goals as goal

pub returns : goal.returns
unfolding parameters
returns c = c.field.ensures
