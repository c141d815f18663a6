-- `number`: the tag of the enum, from 1.
use Rattle.refusals.proofs.Numbers.{number_is_tag}
use Rattle.refusals.proofs.Reason.number.Goals as goal

pub returns : goal.returns
returns c = number_is_tag c.args.self
