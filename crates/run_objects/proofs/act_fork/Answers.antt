-- `act_fork` meets its contract. Assumes nothing.
use borrow.Author.Tests.{le-leb, lt-leb}
use Rattle.run_objects.specs.Inner.Objects.{act_fork}
use borrow.Author.Rules.{rules}
use Rattle.run_objects.proofs.act_fork.Goals as goal

pub returns-then-thread-ge8 : goal.returns-then-thread-ge8
unfolding act_fork
returns-then-thread-ge8 c = simp (le-leb _ _ c.if-thread-ge8.true)

pub returns-then-object-ge32 : goal.returns-then-object-ge32
unfolding act_fork
returns-then-object-ge32 c = simp (lt-leb _ _ c.if-thread-ge8.false, le-leb _ _ c.if-object-ge32.true)

pub returns : goal.returns
unfolding act_fork
returns c = simp (
  c.acted_with.ensures,
  c.value-go.ensures,
  c.entry-entry.ensures,
  lt-leb _ _ c.if-thread-ge8.false,
  lt-leb _ _ c.if-object-ge32.false,
)
