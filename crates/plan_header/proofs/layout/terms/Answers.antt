-- `terms`: bits 10 to 21 of the header.
use Rattle.plan_packed.specs.Format.{terms}
use Rattle.plan_header.proofs.layout.terms.Goals as goal

pub returns : goal.returns
unfolding terms
returns c = c.field.ensures
