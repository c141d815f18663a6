-- `looks::all`: the looks of the code and those of the definition, each computed, are the same. Assumes nothing.
use mathlib.Core.Path.{refl}
use Rattle.plan_notation.specs.Layout.{begins_expression}
use Rattle.plan_pen.specs.Inner.Looks.{ends, begins, behind, ahead, looks_from, look_rows}
use Rattle.plan_pen.proofs.looks.all.Goals as goal

pub invariant_of-result : goal.invariant_of-result
unfolding look_rows looks_from behind ahead ends begins begins_expression
invariant_of-result c = refl

pub returns : goal.returns
unfolding look_rows looks_from behind ahead ends begins begins_expression
returns c = refl
