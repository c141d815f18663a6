-- `spare`: bits 22 to 31 of the header.
use Rattle.plan_packed.specs.Format.{header_spare}
use Rattle.plan_header.proofs.layout.spare.Goals as goal

pub returns : goal.returns
unfolding header_spare
returns c = c.field.ensures
