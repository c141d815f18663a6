-- `fields` meets its contract. The invariant: what the fields behind these make of the mask and leave is what all of them make and leave. Assumes nothing.
use Rattle.plan_reader.proofs.VolatileFields.{Going}
use Rattle.plan_reader.proofs.fields.Given as goal

abbrev pub invariant-loop-at : goal.invariant-loop-at
invariant-loop-at l = Going l.tokens l.from l.mask l.last l.at
