-- `name_children`: what is named so far and the operands that are left make all of them.
use mathlib.Core.Path.{◌≡◌}
use Rattle.plan_packed.specs.Inner.Rows.{children_by_row}
use Rattle.plan_packed.specs.Inner.Steps.{lower_all, count_all}
use Rattle.plan_naming.proofs.Operands.{operands_from}
use Rattle.plan_naming.proofs.name_children.Given as goal

abbrev pub invariant-loop-operand : goal.invariant-loop-operand
invariant-loop-operand l =
    (lower_all l.words (children_by_row l.word l.tag) l.best ≡ lower_all l.words (operands_from l.word l.tag l.operand) l.least)
    × (count_all (children_by_row l.word l.tag) l.initial.times ≡ count_all (operands_from l.word l.tag l.operand) l.times)
