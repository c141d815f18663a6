-- `changes` meets its contract. Assumes nothing.
use borrow.Author.Tests.{eq-eqb, ne_eqb}
use Rattle.run_act.specs.Inner.Act.{changes_by}
use Rattle.run_act.proofs.changes.Goals as goal

pub returns-then-redex-eq-WRITE : goal.returns-then-redex-eq-WRITE
unfolding changes_by
returns-then-redex-eq-WRITE c = simp (eq-eqb _ _ c.if-redex-eq-WRITE.true)

pub returns-else-redex-eq-WRITE : goal.returns-else-redex-eq-WRITE
unfolding changes_by
returns-else-redex-eq-WRITE c = simp (ne_eqb _ _ c.if-redex-eq-WRITE.false)
