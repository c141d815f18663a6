-- `outside`: by the two comparisons.
use borrow.Author.Tests.{le-leb, lt-leb}
use Rattle.plan_operand_tests.proofs.outside.Goals as goal

pub returns-then-child-term : goal.returns-then-child-term
returns-then-child-term c = simp (le-leb _ _ c.if-child-term.true)

pub returns-else-child-term : goal.returns-else-child-term
returns-else-child-term c = simp (lt-leb _ _ c.if-child-term.false)
