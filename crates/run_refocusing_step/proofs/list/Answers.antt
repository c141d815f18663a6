-- `list` meets its contract. Assumes nothing.
use borrow.Author.Tests.{eq-eqb, ne_eqb}
use Rattle.run_refocusing_step.specs.Inner.Down.{list_of, list_by}
use borrow.Author.Rules.{rules}
use Rattle.run_refocusing_step.proofs.list.Goals as goal

pub returns-then-tag-eq-LIST : goal.returns-then-tag-eq-LIST
unfolding list_of list_by
returns-then-tag-eq-LIST c = rw (← c.word-word.ensures, ← c.tag.ensures)
    (simp (
      c.want.ensures,
      c.first.ensures,
      c.rest.ensures,
      c.second.ensures,
      eq-eqb _ _ c.if-tag-eq-LIST.true,
    ))

pub returns : goal.returns
unfolding list_of list_by
returns c = rw (← c.word-word.ensures, ← c.tag.ensures) (simp (c.call.ensures, ne_eqb _ _ c.if-tag-eq-LIST.false))
