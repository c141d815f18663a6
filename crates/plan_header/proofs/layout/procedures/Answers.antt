-- `procedures`: bits 4 to 9 of the header.
use Rattle.plan_packed.specs.Format.{procedures}
use Rattle.plan_header.proofs.layout.procedures.Goals as goal

pub returns : goal.returns
unfolding procedures
returns c = c.field.ensures
