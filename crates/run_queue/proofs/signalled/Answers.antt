-- `signalled` meets its contract. Assumes nothing.
use borrow.Author.Tests.{eq-eqb, ne_eqb}
use Rattle.run_queue.specs.Inner.Queue.{signalled_of}
use borrow.Author.Rules.{rules}
use Rattle.run_queue.proofs.signalled.Goals as goal

pub returns-then-signal-eq0 : goal.returns-then-signal-eq0
unfolding signalled_of
returns-then-signal-eq0 c = simp (c.wait.ensures, eq-eqb _ _ c.if-signal-eq0.true)

pub returns-then-signal-eq1 : goal.returns-then-signal-eq1
unfolding signalled_of
returns-then-signal-eq1 c =
    simp (
      c.notify.ensures,
      eq-eqb _ _ c.if-signal-eq1.true,
      ne_eqb _ _ c.if-signal-eq0.false,
    )

pub returns : goal.returns
unfolding signalled_of
returns c =
    simp (
      c.notify_all.ensures,
      ne_eqb _ _ c.if-signal-eq1.false,
      ne_eqb _ _ c.if-signal-eq0.false,
    )
