-- `operand` meets its contract. Assumes nothing.
use Rattle.plan_parser.proofs.StackLaws.{operand_none, operand_term, operand_number}
use Rattle.plan_parser.proofs.stacks.operand.Goals as goal

pub returns-then-back-eq0 : goal.returns-then-back-eq0
returns-then-back-eq0 c = operand_none _ _ _ c.if-back-eq0.true

pub returns-then-value-lt1024 : goal.returns-then-value-lt1024
returns-then-value-lt1024 c = operand_term _ _ _ c.if-back-eq0.false c.if-value-lt1024.true

pub returns : goal.returns
returns c = operand_number _ _ _ c.if-back-eq0.false c.if-value-lt1024.false
