-- `act_new` meets its contract. Assumes nothing.
use borrow.Author.Tests.{le-leb, lt-leb}
use Rattle.run_objects.specs.Inner.Objects.{act_new}
use borrow.Author.Rules.{rules}
use Rattle.run_objects.proofs.act_new.Goals as goal

pub returns-then-object-ge32 : goal.returns-then-object-ge32
unfolding act_new
returns-then-object-ge32 c = simp (le-leb _ _ c.if-object-ge32.true)

pub returns : goal.returns
unfolding act_new
returns c = simp (
  c.acted_with.ensures,
  c.value-go.ensures,
  c.entry-entry.ensures,
  lt-leb _ _ c.if-object-ge32.false,
)
