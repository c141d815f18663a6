-- `version`: bits 0 to 3 of the header.
use Rattle.plan_packed.specs.Format.{version}
use Rattle.plan_header.proofs.layout.version.Goals as goal

pub returns : goal.returns
unfolding version
returns c = c.field.ensures
