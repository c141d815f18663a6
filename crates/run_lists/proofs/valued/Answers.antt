-- `valued` meets its contract. Assumes nothing.
use borrow.Author.Tests.{eq-eqb, ne_eqb}
use Rattle.run_lists.specs.Inner.Lists.{valued_at}
use Rattle.run_lists.proofs.valued.Goals as goal

pub returns-then-tag-eq-LIST : goal.returns-then-tag-eq-LIST
unfolding valued_at
returns-then-tag-eq-LIST c =
    rw (← c.word-word.ensures, ← c.tag.ensures, ← c.first.ensures, ← c.word.ensures, ← c.tag-then-tag-eq-LIST.ensures)
    (simp (eq-eqb _ _ c.if-tag-eq-LIST.true))

pub returns-else-tag-eq-LIST : goal.returns-else-tag-eq-LIST
unfolding valued_at
returns-else-tag-eq-LIST c = rw (← c.word-word.ensures, ← c.tag.ensures) (simp (ne_eqb _ _ c.if-tag-eq-LIST.false))
