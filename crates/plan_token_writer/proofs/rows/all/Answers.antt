-- `all`: the rows of the code and those of the definition, each computed, are the same.
use mathlib.Core.Path.{refl}
use Rattle.plan_token_writer.specs.Inner.Items.{item_rows}
use Rattle.plan_token_writer.proofs.rows.all.Goals as goal

pub invariant_of-result : goal.invariant_of-result
unfolding item_rows
invariant_of-result c = refl

pub returns : goal.returns
unfolding item_rows
returns c = refl
