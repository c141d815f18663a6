-- `wrong_binder`: by the two comparisons.
use borrow.Author.Tests.{lt-ltb, le-ltb}
use Rattle.plan_operand_tests.proofs.wrong_binder.Goals as goal

pub returns-then-slot-gt7 : goal.returns-then-slot-gt7
returns-then-slot-gt7 c = simp (lt-ltb _ _ c.if-slot-gt7.true)

pub returns-else-slot-gt7 : goal.returns-else-slot-gt7
returns-else-slot-gt7 c = simp (le-ltb _ _ c.if-slot-gt7.false)
