-- `run` meets its contract. Assumes nothing.
use borrow.Author.Tests.{ne_eqb}
use Rattle.run_refocusing_step.specs.Inner.Down.{open_expression_of, open_expression_by}
use borrow.Author.Rules.{rules}
use Rattle.run_refocusing_step.proofs.open_expression.Goals as goal

pub returns-in-3 : goal.returns-in-3
unfolding open_expression_of open_expression_by
returns-in-3 c = rw (← c.tag-tag.ensures)
    (simp (
      c.want.ensures,
      c.frame_of.ensures,
      c.field_of-field.ensures,
      c.first-first.ensures,
      c.in-3.is,
    ))

pub returns-in-4 : goal.returns-in-4
unfolding open_expression_of open_expression_by
returns-in-4 c = rw (← c.tag-tag.ensures)
    (simp (
      c.want-in-4.ensures,
      c.frame_of-frame.ensures,
      c.write_second-value.ensures,
      c.field_of-field.ensures,
      c.first-first.ensures,
      c.in-4.is,
    ))

pub returns-in-5 : goal.returns-in-5
unfolding open_expression_of open_expression_by
returns-in-5 c = rw (← c.tag-tag.ensures)
    (simp (
      c.want-in-5.ensures,
      c.let_first.ensures,
      c.let_frame.ensures,
      c.let_second.ensures,
      c.slot_of.ensures,
      c.in-5.is,
    ))

pub returns-in-6 : goal.returns-in-6
unfolding open_expression_of open_expression_by
returns-in-6 c = rw (← c.tag-tag.ensures)
    (simp (
      c.want_condition.ensures,
      c.frame_of-in-6.ensures,
      c.third.ensures,
      c.second-second.ensures,
      c.first-first.ensures,
      c.in-6.is,
    ))

pub returns-in-8 : goal.returns-in-8
unfolding open_expression_of open_expression_by
returns-in-8 c = rw (← c.tag-tag.ensures)
    (simp (
      c.list.ensures,
      c.frame_of-in-8.ensures,
      c.procedure_of.ensures,
      c.list_of.ensures,
      c.in-8.is,
    ))

pub returns-in-10 : goal.returns-in-10
unfolding open_expression_of open_expression_by
returns-in-10 c = rw (← c.tag-tag.ensures)
    (simp (c.want-in-10.ensures, c.frame_of-in-10.ensures, c.first-first.ensures, c.in-10.is))

pub returns-in-11 : goal.returns-in-11
unfolding open_expression_of open_expression_by
returns-in-11 c = rw (← c.tag-tag.ensures)
    (simp (
      c.want-in-11.ensures,
      c.frame_of-in-11.ensures,
      c.second-second.ensures,
      c.first-first.ensures,
      c.in-11.is,
    ))

pub returns-in_default : goal.returns-in_default
unfolding open_expression_of open_expression_by
returns-in_default c = simp c.simple.ensures
    (rw (← c.tag-tag.ensures)
    (simp (
      ne_eqb _ _ c.in_default.in_default-own.rest.0.0.0.0.0.0.1,
      ne_eqb _ _ c.in_default.in_default-own.rest.0.0.0.0.0.1,
      ne_eqb _ _ c.in_default.in_default-own.rest.0.0.0.0.1,
      ne_eqb _ _ c.in_default.in_default-own.rest.0.0.0.1,
      ne_eqb _ _ c.in_default.in_default-own.rest.0.0.1,
      ne_eqb _ _ c.in_default.in_default-own.rest.0.1,
      ne_eqb _ _ c.in_default.in_default-own.rest.1,
    )))
