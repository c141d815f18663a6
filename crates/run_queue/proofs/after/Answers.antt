-- `after` meets its contract. Assumes nothing.
use borrow.Author.Tests.{eq-eqb, ne_eqb}
use Rattle.run_queue.specs.Inner.Queue.{after_of}
use borrow.Author.Rules.{rules}
use Rattle.run_queue.proofs.after.Goals as goal

pub returns-then-ready-eq-SIGNAL : goal.returns-then-ready-eq-SIGNAL
unfolding after_of
returns-then-ready-eq-SIGNAL c = simp (c.signalled.ensures, eq-eqb _ _ c.if-ready-eq-SIGNAL.true)

pub returns-else-ready-eq-SIGNAL : goal.returns-else-ready-eq-SIGNAL
unfolding after_of
returns-else-ready-eq-SIGNAL c = simp (ne_eqb _ _ c.if-ready-eq-SIGNAL.false)
