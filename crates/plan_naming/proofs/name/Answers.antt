-- `name`: the list of one name.
use Rattle.plan_packed.specs.Inner.Steps.{lower_all, count_all}
use Rattle.plan_naming.proofs.name.Goals as goal

pub returns : goal.returns
unfolding lower_all count_all
returns c = record { value = c.lower.ensures; times_after = rw c.once_more.ensures }
