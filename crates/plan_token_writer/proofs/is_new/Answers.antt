-- `is_new` meets its contract. Assumes nothing.
use borrow.Author.Tests.{lt-ltb, le-ltb}
use Rattle.plan_token_writer.specs.Inner.Items.{is_new}
use Rattle.plan_token_writer.proofs.is_new.Goals as goal

pub returns-then-context-lt4 : goal.returns-then-context-lt4
unfolding is_new
returns-then-context-lt4 c = rw (lt-ltb _ 4 c.if-context-lt4.true)

pub returns-else-context-lt4 : goal.returns-else-context-lt4
unfolding is_new
returns-else-context-lt4 c = rw (le-ltb _ 4 c.if-context-lt4.false)
