-- `queued` meets its contract. Assumes nothing.
use borrow.Author.Tests.{eq-eqb, ne_eqb}
use Rattle.run_queue.specs.Inner.Queue.{queued_on}
use Rattle.run_queue.proofs.queued.Goals as goal

pub returns-then-object-place : goal.returns-then-object-place
unfolding queued_on
returns-then-object-place c = simp (eq-eqb _ _ c.if-object-place.true)

pub returns-else-object-place : goal.returns-else-object-place
unfolding queued_on
returns-else-object-place c = simp (ne_eqb _ _ c.if-object-place.false)
