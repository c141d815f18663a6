-- `layouts`: the rows of the code and the rows that the table gives, each computed, are the same.
use mathlib.Core.Path.{refl}
use Rattle.plan_packed.specs.Inner.Rows.{layout_rows}
use Rattle.plan_operands.proofs.rows.layouts.Goals as goal

pub returns : goal.returns
unfolding layout_rows
returns c = refl
