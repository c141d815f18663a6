-- The walk of check 7: each function takes a term apart once, and its children come after it, so that the span of terms from it on falls.
use Prim.Native.Nat.{◌*◌, ◌+◌, ◌-◌, ◌<◌, ◌≤◌}
use Rattle.plan_bound_slots.proofs.Conditions.{conditions_of}
use Rattle.plan_bound_slots.proofs.Lists.{lists_of}
use Rattle.plan_bound_slots.proofs.Turns.{Left}
use Rattle.plan_packed.specs.Inner.Steps.{slots, tree_in}
use Rattle.plan_packed.specs.Slots.{closed}
use mathlib.Core.Path.{◌≡◌}
use Rattle.plan_bound_slots.proofs.+closed_tree.Given as goal

abbrev pub invariant-closed_condition-loop-term : goal.invariant-closed_condition-loop-term
invariant-closed_condition-loop-term l = Left l.words (conditions_of l.words (slots l.bound)) l.from l.term

abbrev pub decreases-closed_condition-loop-term : goal.decreases-closed_condition-loop-term
decreases-closed_condition-loop-term l = 1024 - l.term

abbrev pub invariant-closed_expression-loop-closed : goal.invariant-closed_expression-loop-closed
invariant-closed_expression-loop-closed l =
    (l.from ≤ l.term) × (l.term < 1024) × (closed (slots l.bound) (tree_in l.words l.term) ≡ closed (slots l.outer) (tree_in l.words l.from))

abbrev pub decreases-closed_expression-loop-closed : goal.decreases-closed_expression-loop-closed
decreases-closed_expression-loop-closed l = 1024 - l.term

abbrev pub invariant-closed_list-loop-from : goal.invariant-closed_list-loop-from
invariant-closed_list-loop-from l = Left l.words (lists_of l.words (slots l.bound)) l.from l.term

abbrev pub decreases-closed_list-loop-from : goal.decreases-closed_list-loop-from
decreases-closed_list-loop-from l = 1024 - l.term

abbrev pub decreases-closed_condition : goal.decreases-closed_condition
decreases-closed_condition l = 3 * (1024 - l.from) + 1

abbrev pub decreases-closed_expression : goal.decreases-closed_expression
decreases-closed_expression l = 3 * (1024 - l.from) + 1

abbrev pub decreases-closed_list : goal.decreases-closed_list
decreases-closed_list l = 3 * (1024 - l.from) + 1

abbrev pub decreases-rest_of : goal.decreases-rest_of
decreases-rest_of l = 3 * (1024 - l.term)

abbrev pub decreases-rest_of_two : goal.decreases-rest_of_two
decreases-rest_of_two l = 3 * (1024 - l.first) + 2
