-- `thread_of` meets its contract. Assumes nothing.
use borrow.Author.Tests.{le-leb, lt-leb}
use Rattle.run_engine.specs.Inner.Engine.{thread_by}
use borrow.Author.Rules.{rules}
use Rattle.run_engine.proofs.thread_of.Goals as goal

pub returns-then-counts-met : goal.returns-then-counts-met
unfolding thread_by
returns-then-counts-met c = simp (c.no_thread.ensures, le-leb _ _ c.if-counts-met.true)

pub returns : goal.returns
unfolding thread_by
returns c = simp (c.status-state.ensures, lt-leb _ _ c.if-counts-met.false)
