-- `binder` meets its contract. Assumes nothing.
use native.Mathlib.Omega.{arith}
use borrow.Author.Tests.{eq-eqb, ne_eqb}
use Rattle.plan_token_writer.specs.Inner.Items.{binder_on}
use Rattle.plan_token_writer.proofs.binder.Goals as goal

pub returns-then-slot-eq15 : goal.returns-then-slot-eq15
unfolding binder_on
returns-then-slot-eq15 c = (rw (eq-eqb _ 15 c.if-slot-eq15.true), omega arith)

pub returns : goal.returns
unfolding binder_on
returns c = (rw (ne_eqb _ 15 c.if-slot-eq15.false), omega arith)
