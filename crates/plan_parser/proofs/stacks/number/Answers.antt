-- `number` meets its contract. Assumes nothing.
use borrow.Author.Tests.{lt-ltb, le-ltb}
use Rattle.plan_parser.proofs.stacks.number.Goals as goal

pub returns-then-value-lt1024 : goal.returns-then-value-lt1024
returns-then-value-lt1024 c = rw (lt-ltb _ _ c.if-value-lt1024.true)

pub returns : goal.returns
returns c = rw (le-ltb _ _ c.if-value-lt1024.false)
