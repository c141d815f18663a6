-- The walk: each function takes a term apart once, and its children come after it, so that the span of terms from it on falls.
use Prim.Native.Nat.{◌+◌, ◌-◌, ◌*◌, min}
use Rattle.plan_packed.specs.Inner.Operands.{list_bits}
use Rattle.plan_cost_walk.proofs.+cost_walk.Given as goal

abbrev pub decreases-walk_branches : goal.decreases-walk_branches
decreases-walk_branches l = 2 * (1024 - min l.test (min l.yes l.no)) + 1

abbrev pub decreases-walk_call : goal.decreases-walk_call
decreases-walk_call l = 2 * (1024 - list_bits l.word) + 1

abbrev pub decreases-walk_condition : goal.decreases-walk_condition
decreases-walk_condition l = 2 * (1024 - l.term)

abbrev pub decreases-walk_expression : goal.decreases-walk_expression
decreases-walk_expression l = 2 * (1024 - l.term)

abbrev pub decreases-walk_list : goal.decreases-walk_list
decreases-walk_list l = 2 * (1024 - l.term)

abbrev pub decreases-walk_two : goal.decreases-walk_two
decreases-walk_two l = 2 * (1024 - min l.first l.second) + 1
