-- `root`: the last 12 bits of a procedure's 16.
use Rattle.plan_packed.specs.Format.{root}
use Rattle.plan_header.proofs.layout.root.Goals as goal

pub returns : goal.returns
unfolding root
returns c = c.field.ensures
