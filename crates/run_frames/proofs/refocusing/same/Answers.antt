-- `same` meets its contract. Assumes nothing.
use borrow.Author.Tests.{eq-eqb, ne_eqb}
use Rattle.run_frames.proofs.refocusing.same.Goals as goal

pub returns-then-value-other : goal.returns-then-value-other
returns-then-value-other c = simp (eq-eqb _ _ c.if-value-other.true)

pub returns-else-value-other : goal.returns-else-value-other
returns-else-value-other c = simp (ne_eqb _ _ c.if-value-other.false)
