-- `about_field` meets its contract. Assumes nothing.
use borrow.Author.Tests.{eq-eqb, ne_eqb}
use Rattle.run_look.specs.Inner.Look.{about_field}
use Rattle.run_look.proofs.about_field.Goals as goal

pub returns-then-redex-eq-READ : goal.returns-then-redex-eq-READ
unfolding about_field
returns-then-redex-eq-READ c = simp (eq-eqb _ _ c.if-redex-eq-READ.true)

pub returns-else-redex-eq-READ : goal.returns-else-redex-eq-READ
unfolding about_field
returns-else-redex-eq-READ c = simp (ne_eqb _ _ c.if-redex-eq-READ.false)
