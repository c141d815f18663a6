-- `freed` meets its contract. Assumes nothing.
use borrow.Author.Tests.{eq-eqb, ne_eqb}
use Rattle.run_queue.specs.Inner.Queue.{freed}
use Rattle.run_queue.proofs.freed.Goals as goal

pub returns-then-object-place : goal.returns-then-object-place
unfolding freed
returns-then-object-place c = simp (eq-eqb _ _ c.if-object-place.true)

pub returns-else-object-place : goal.returns-else-object-place
unfolding freed
returns-else-object-place c = simp (ne_eqb _ _ c.if-object-place.false)
