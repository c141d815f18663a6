-- `last` meets its contract. Assumes nothing.
use Rattle.plan_parser.proofs.StackLaws.{last_none, last_some}
use Rattle.plan_parser.proofs.stacks.last.Goals as goal

pub returns-then-top-eq0 : goal.returns-then-top-eq0
returns-then-top-eq0 c = last_none _ _ c.if-top-eq0.true

pub returns : goal.returns
returns c = last_some _ _ c.if-top-eq0.false
