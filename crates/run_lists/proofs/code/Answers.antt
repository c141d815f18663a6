-- `code` meets its contract. Assumes nothing.
use native.Mathlib.Omega.{arith}
use borrow.Author.Tests.{eq-eqb, ne_eqb, lt-ltb, le-ltb}
use Rattle.run_lists.specs.Inner.Lists.{code_by}
use Rattle.run_lists.proofs.code.Goals as goal

pub returns-then-slot-lt8 : goal.returns-then-slot-lt8
unfolding code_by
returns-then-slot-lt8 c = (
  rw (← c.tag.ensures, ← c.slot_of-slot.ensures)
      (simp (eq-eqb _ _ c.if-tag-eq-VARIABLE.true, lt-ltb _ _ c.if-slot-lt8.true)),
  omega (arith, c.if-slot-lt8.true),
)

pub returns-else-slot-lt8 : goal.returns-else-slot-lt8
unfolding code_by
returns-else-slot-lt8 c = (
  rw (← c.tag.ensures, ← c.slot_of-slot.ensures)
      (simp (eq-eqb _ _ c.if-tag-eq-VARIABLE.true, le-ltb _ _ c.if-slot-lt8.false)),
  omega arith,
)

pub returns-else-tag-eq-VARIABLE : goal.returns-else-tag-eq-VARIABLE
unfolding code_by
returns-else-tag-eq-VARIABLE c = (rw (← c.tag.ensures) (simp (ne_eqb _ _ c.if-tag-eq-VARIABLE.false)), omega arith)
