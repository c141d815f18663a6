-- `simple` meets its contract. Assumes nothing.
use borrow.Author.Tests.{ne_eqb}
use Rattle.run_refocusing_step.specs.Inner.Down.{simple_of, simple_by}
use borrow.Author.Rules.{rules}
use Rattle.run_refocusing_step.proofs.simple.Goals as goal

pub returns-in-2 : goal.returns-in-2
unfolding simple_of simple_by
returns-in-2 c = rw (← c.tag-tag.ensures)
    (simp (c.at.ensures, c.ready_of.ensures, c.mask_of.ensures, c.in-2.is))

pub returns-in-7 : goal.returns-in-7
unfolding simple_of simple_by
returns-in-7 c = rw (← c.tag-tag.ensures)
    (simp (
      c.at-in-7.ensures,
      c.ready_of-in-7.ensures,
      c.second.ensures,
      c.first.ensures,
      c.in-7.is,
    ))

pub returns-in-9 : goal.returns-in-9
unfolding simple_of simple_by
returns-in-9 c = rw (← c.tag-tag.ensures)
    (simp (c.at-in-9.ensures, c.ready_of-in-9.ensures, c.first-in-9.ensures, c.in-9.is))

pub returns-in-0 : goal.returns-in-0
unfolding simple_of simple_by
returns-in-0 c = rw (← c.tag-tag.ensures) (simp (c.value.ensures, c.in-0.is))

pub returns-in-1 : goal.returns-in-1
unfolding simple_of simple_by
returns-in-1 c = rw (← c.tag-tag.ensures)
    (simp (c.value-in-1.ensures, c.slot.ensures, c.slot_of.ensures, c.in-1.is))

pub returns-in_default : goal.returns-in_default
unfolding simple_of simple_by
returns-in_default c =
    simp c.signal.ensures
    (rw (← c.tag-tag.ensures)
    (simp (
      ne_eqb _ _ c.in_default.in_default-own.rest.0.0.0.0.1,
      ne_eqb _ _ c.in_default.in_default-own.rest.0.0.0.1,
      ne_eqb _ _ c.in_default.in_default-own.rest.0.0.1,
      ne_eqb _ _ c.in_default.in_default-own.rest.0.1,
      ne_eqb _ _ c.in_default.in_default-own.rest.1,
    )))
