-- `act_pure` meets its contract. Assumes nothing.
use borrow.Author.Tests.{ne_eqb}
use Rattle.run_act.specs.Inner.Act.{pure_by}
use borrow.Author.Rules.{rules}
use Rattle.run_act.proofs.act_pure.Goals as goal

pub returns-in-2 : goal.returns-in-2
unfolding pure_by
returns-in-2 c = simp (c.run.ensures, c.in-2.is)

pub returns-in-3 : goal.returns-in-3
unfolding pure_by
returns-in-3 c = simp (c.run_condition.ensures, c.in-3.is)

pub returns-in-4 : goal.returns-in-4
unfolding pure_by
returns-in-4 c = simp (c.value.ensures, c.in-4.is)

pub returns-in-5 : goal.returns-in-5
unfolding pure_by
returns-in-5 c = simp (c.truth.ensures, c.in-5.is)

pub returns-in-6 : goal.returns-in-6
unfolding pure_by
returns-in-6 c = simp (c.want_condition.ensures, c.frame_of.ensures, c.in-6.is)

pub returns-in-7 : goal.returns-in-7
unfolding pure_by
returns-in-7 c = simp (c.want.ensures, c.frame_of-in-7.ensures, c.in-7.is)

pub returns-in-8 : goal.returns-in-8
unfolding pure_by
returns-in-8 c = simp (c.at.ensures, c.ready_of.ensures, c.in-8.is)

pub returns-in_default : goal.returns-in_default
unfolding pure_by
returns-in_default c = simp (
  c.full.ensures,
  ne_eqb _ _ c.in_default.in_default-own.rest.0.0.0.0.0.0.1,
  ne_eqb _ _ c.in_default.in_default-own.rest.0.0.0.0.0.1,
  ne_eqb _ _ c.in_default.in_default-own.rest.0.0.0.0.1,
  ne_eqb _ _ c.in_default.in_default-own.rest.0.0.0.1,
  ne_eqb _ _ c.in_default.in_default-own.rest.0.0.1,
  ne_eqb _ _ c.in_default.in_default-own.rest.0.1,
  ne_eqb _ _ c.in_default.in_default-own.rest.1,
)
