-- `head` meets its contract. Assumes nothing.
use native.Mathlib.Omega.{arith}
use borrow.Author.Tests.{eq-eqb, ne_eqb}
use Rattle.run_lists.specs.Inner.Lists.{head_by}
use Rattle.run_lists.proofs.head.Goals as goal

pub returns-then-tag-eq-LIST : goal.returns-then-tag-eq-LIST
unfolding head_by
returns-then-tag-eq-LIST c = (
  rw (← c.word.ensures, ← c.tag.ensures) (simp (eq-eqb _ _ c.if-tag-eq-LIST.true)),
  omega (arith, c.requires.0),
)

pub returns : goal.returns
unfolding head_by
returns c = (
  rw (← c.word.ensures, ← c.tag.ensures) (simp (ne_eqb _ _ c.if-tag-eq-LIST.false)),
  omega (arith, c.requires),
)
