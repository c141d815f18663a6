-- `look_join` meets its contract. Assumes nothing.
use borrow.Author.Tests.{eq-eqb, ne_eqb, le-leb, lt-leb}
use Rattle.run_look.specs.Inner.Look.{look_join}
use Rattle.run_look.proofs.look_join.Goals as goal

pub returns-then-object-ge8 : goal.returns-then-object-ge8
unfolding look_join
returns-then-object-ge8 c = simp (le-leb _ _ c.if-object-ge8.true)

pub returns-then-other-eq-DONE : goal.returns-then-other-eq-DONE
unfolding look_join
returns-then-other-eq-DONE c = simp (lt-leb _ _ c.if-object-ge8.false, eq-eqb _ _ c.if-other-eq-DONE.true)

pub returns-else-other-eq-DONE : goal.returns-else-other-eq-DONE
unfolding look_join
returns-else-other-eq-DONE c = simp (lt-leb _ _ c.if-object-ge8.false, ne_eqb _ _ c.if-other-eq-DONE.false)
