-- `name`: the list of one name.
use Rattle.plan_packed.specs.Inner.Steps.{note_all}
use Rattle.plan_naming.proofs.notes.name.Goals as goal

pub returns : goal.returns
unfolding note_all
returns c = rw c.noted.ensures
