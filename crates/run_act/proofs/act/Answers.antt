-- `act` meets its contract. Assumes nothing.
use borrow.Author.Tests.{ne_eqb}
use Rattle.run_act.specs.Inner.Act.{act_by}
use borrow.Author.Rules.{rules}
use Rattle.run_act.proofs.act.Goals as goal

pub returns-in-9 : goal.returns-in-9
unfolding act_by
returns-in-9 c = simp (c.act_new.ensures, c.in-9.is)

pub returns-in-10 : goal.returns-in-10
unfolding act_by
returns-in-10 c = simp (c.act_read.ensures, c.in-10.is)

pub returns-in-11 : goal.returns-in-11
unfolding act_by
returns-in-11 c = simp (c.act_write.ensures, c.in-11.is)

pub returns-in-12 : goal.returns-in-12
unfolding act_by
returns-in-12 c = simp (c.act_fork.ensures, c.in-12.is)

pub returns-in-13 : goal.returns-in-13
unfolding act_by
returns-in-13 c = simp (c.act_join.ensures, c.in-13.is)

pub returns-in-14 : goal.returns-in-14
unfolding act_by
returns-in-14 c = simp (c.act_synch.ensures, c.in-14.is)

pub returns-in-15 : goal.returns-in-15
unfolding act_by
returns-in-15 c = simp (c.act_hold.ensures, c.in-15.is)

pub returns-in-16 : goal.returns-in-16
unfolding act_by
returns-in-16 c = simp (c.act_signal.ensures, c.in-16.is)

pub returns-in-17 : goal.returns-in-17
unfolding act_by
returns-in-17 c = simp (c.act_wake.ensures, c.in-17.is)

pub returns-in_default : goal.returns-in_default
unfolding act_by
returns-in_default c =
    simp (
      c.go_on.ensures,
      c.act_pure.ensures,
      ne_eqb _ _ c.in_default.in_default-own.rest.0.0.0.0.0.0.0.0.1,
      ne_eqb _ _ c.in_default.in_default-own.rest.0.0.0.0.0.0.0.1,
      ne_eqb _ _ c.in_default.in_default-own.rest.0.0.0.0.0.0.1,
      ne_eqb _ _ c.in_default.in_default-own.rest.0.0.0.0.0.1,
      ne_eqb _ _ c.in_default.in_default-own.rest.0.0.0.0.1,
      ne_eqb _ _ c.in_default.in_default-own.rest.0.0.0.1,
      ne_eqb _ _ c.in_default.in_default-own.rest.0.0.1,
      ne_eqb _ _ c.in_default.in_default-own.rest.0.1,
      ne_eqb _ _ c.in_default.in_default-own.rest.1,
    )
