-- `next` meets its contract. Assumes nothing.
use borrow.Author.Tests.{eq-eqb, ne_eqb}
use Rattle.run_refocusing_step.specs.Inner.Ahead.{next_of}
use borrow.Author.Rules.{rules}
use Rattle.run_refocusing_step.proofs.next.Goals as goal

pub returns-then-tag-eq-LIST : goal.returns-then-tag-eq-LIST
unfolding next_of
returns-then-tag-eq-LIST c = rw (← c.tag.ensures) (simp (c.value.ensures, c.first.ensures, eq-eqb _ _ c.if-tag-eq-LIST.true))

pub returns : goal.returns
unfolding next_of
returns c = rw (← c.tag.ensures) (simp (ne_eqb _ _ c.if-tag-eq-LIST.false))
