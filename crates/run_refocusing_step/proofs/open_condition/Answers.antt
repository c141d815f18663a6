-- `run_condition` meets its contract. Assumes nothing.
use borrow.Author.Tests.{ne_eqb}
use Rattle.run_refocusing_step.specs.Inner.Down.{open_condition_of, open_condition_by}
use borrow.Author.Rules.{rules}
use Rattle.run_refocusing_step.proofs.open_condition.Goals as goal

pub returns-in-12 : goal.returns-in-12
unfolding open_condition_of open_condition_by
returns-in-12 c = rw (← c.tag-tag.ensures) (simp (c.truth.ensures, c.in-12.is))

pub returns-in-13 : goal.returns-in-13
unfolding open_condition_of open_condition_by
returns-in-13 c = rw (← c.tag-tag.ensures)
    (simp (c.want_condition.ensures, c.frame_of.ensures, c.first-first.ensures, c.in-13.is))

pub returns-in-14 : goal.returns-in-14
unfolding open_condition_of open_condition_by
returns-in-14 c = rw (← c.tag-tag.ensures)
    (simp (
      c.want_condition-in-14.ensures,
      c.frame_of-in-14.ensures,
      c.second-second.ensures,
      c.first-first.ensures,
      c.in-14.is,
    ))

pub returns-in-15 : goal.returns-in-15
unfolding open_condition_of open_condition_by
returns-in-15 c = rw (← c.tag-tag.ensures)
    (simp (
      c.want.ensures,
      c.frame_of-in-15.ensures,
      c.second-second.ensures,
      c.first-first.ensures,
      c.in-15.is,
    ))

pub returns-in_default : goal.returns-in_default
unfolding open_condition_of open_condition_by
returns-in_default c = simp (c.at.ensures, c.ready_of.ensures)
    (rw (← c.tag-tag.ensures)
    (simp (
      ne_eqb _ _ c.in_default.in_default-own.rest.0.0.0.1,
      ne_eqb _ _ c.in_default.in_default-own.rest.0.0.1,
      ne_eqb _ _ c.in_default.in_default-own.rest.0.1,
      ne_eqb _ _ c.in_default.in_default-own.rest.1,
    )))
