-- `nearer` meets its contract. Assumes nothing.
use mathlib.Core.Path.{sym, ◌∙◌}
use Rattle.run_queue.specs.Inner.Queue.{nearer}
use Rattle.run_queue.proofs.Places.{queued_past}
use borrow.Author.Rules.{rules}
use Rattle.run_queue.proofs.nearer.Goals as goal

pub overflow_sub-result : goal.overflow_sub-result
overflow_sub-result c = queued_past _ _ (sym c.queued.ensures ∙ c.if-queued.true)

pub returns-then-queued : goal.returns-then-queued
unfolding nearer
returns-then-queued c = simp (sym c.queued.ensures ∙ c.if-queued.true)

pub returns : goal.returns
unfolding nearer
returns c = simp (sym c.queued.ensures ∙ c.if-queued.false)
