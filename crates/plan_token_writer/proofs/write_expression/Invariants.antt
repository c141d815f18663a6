-- `write_expression` meets its contract. The invariant: what is written and what the items on the stack stand for are the tree's tokens. Assumes nothing.
use mathlib.Core.Path.{◌≡◌}
use lib.ListN.{length}
use Rattle.plan_packed.specs.Inner.Steps.{tree_in}
use Rattle.plan_notation.specs.Shown.{loose, shown}
use Rattle.plan_token_writer.specs.Inner.Items.{stack_of, weight}
use Rattle.plan_token_writer.proofs.Writing.{Writing}
use Rattle.plan_token_writer.proofs.write_expression.Given as goal

abbrev pub invariant-loop-standing : goal.invariant-loop-standing
invariant-loop-standing l =
    Writing l.words (shown loose (tree_in l.words l.root)) l.initial.area l.from l.stack l.standing.top l.area l.standing.at × (length l.stack ≡ length l.initial.stack)

abbrev pub decreases-loop-standing : goal.decreases-loop-standing
decreases-loop-standing l = weight l.words (stack_of l.stack l.standing.top)
