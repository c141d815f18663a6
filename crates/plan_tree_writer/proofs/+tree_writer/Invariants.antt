-- The writer's walk: each function takes a term apart once, and its children come after it, so that the span of terms from it on falls.
use Prim.Native.Nat.{◌*◌, ◌+◌, ◌-◌}
use Rattle.plan_tree_writer.proofs.Turns.{Still}
use Rattle.plan_tree_writer.specs.Inner.Left.{conditions_in, expressions_in, lists_in}
use Rattle.plan_tree_writer.proofs.+tree_writer.Given as goal

abbrev pub invariant-write_condition-loop-next : goal.invariant-write_condition-loop-next
invariant-write_condition-loop-next l = Still (conditions_in l.words) l.base l.from l.first l.initial.area l.term l.number l.area

abbrev pub decreases-write_condition-loop-next : goal.decreases-write_condition-loop-next
decreases-write_condition-loop-next l = 1024 - l.term

abbrev pub invariant-write_expression-loop-next : goal.invariant-write_expression-loop-next
invariant-write_expression-loop-next l = Still (expressions_in l.words) l.base l.from l.first l.initial.area l.term l.number l.area

abbrev pub decreases-write_expression-loop-next : goal.decreases-write_expression-loop-next
decreases-write_expression-loop-next l = 1024 - l.term

abbrev pub invariant-write_list-loop-next : goal.invariant-write_list-loop-next
invariant-write_list-loop-next l = Still (lists_in l.words) l.base l.from l.first l.initial.area l.term l.number l.area

abbrev pub decreases-write_list-loop-next : goal.decreases-write_list-loop-next
decreases-write_list-loop-next l = 1024 - l.term

abbrev pub decreases-begin_condition : goal.decreases-begin_condition
decreases-begin_condition l = 3 * (1024 - l.term)

abbrev pub decreases-begin_expression : goal.decreases-begin_expression
decreases-begin_expression l = 3 * (1024 - l.term)

abbrev pub decreases-begin_list : goal.decreases-begin_list
decreases-begin_list l = 3 * (1024 - l.term)

abbrev pub decreases-write_child : goal.decreases-write_child
decreases-write_child l = 3 * (1024 - l.term) + 2

abbrev pub decreases-write_condition : goal.decreases-write_condition
decreases-write_condition l = 3 * (1024 - l.from) + 2

abbrev pub decreases-write_expression : goal.decreases-write_expression
decreases-write_expression l = 3 * (1024 - l.from) + 1

abbrev pub decreases-write_list : goal.decreases-write_list
decreases-write_list l = 3 * (1024 - l.from) + 2
