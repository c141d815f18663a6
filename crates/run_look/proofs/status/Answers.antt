-- `status` meets its contract. Assumes nothing.
use borrow.Author.Tests.{ne_eqb}
use mathlib.Core.Path.{sym, ◌∙◌}
use Rattle.run_look.specs.Inner.Look.{about_field, look_by}
use borrow.Author.Rules.{rules}
use Rattle.run_look.proofs.status.Goals as goal

pub returns-then-about_field : goal.returns-then-about_field
unfolding look_by
returns-then-about_field c = simp (c.state_of.ensures, c.look_field.ensures, sym c.about_field.ensures ∙ c.if-about_field.true)

pub returns-in-0 : goal.returns-in-0
unfolding look_by about_field
returns-in-0 c = simp (c.state_of-in-0.ensures, c.in-0.is)

pub returns-in-1 : goal.returns-in-1
unfolding look_by about_field
returns-in-1 c = simp (c.state_of-in-1.ensures, c.in-1.is)

pub returns-in-13 : goal.returns-in-13
unfolding look_by about_field
returns-in-13 c = simp (c.state_of-in-13.ensures, c.look_join.ensures, c.in-13.is)

pub returns-in-14 : goal.returns-in-14
unfolding look_by about_field
returns-in-14 c = simp (c.state_of-in-14.ensures, c.look_synch.ensures, c.in-14.is)

pub returns-in-16 : goal.returns-in-16
unfolding look_by about_field
returns-in-16 c = simp (c.state_of-in-16.ensures, c.look_signal.ensures, c.in-16.is)

pub returns-in-17 : goal.returns-in-17
unfolding look_by about_field
returns-in-17 c = simp (c.state_of-in-17.ensures, c.look_waiting.ensures, c.in-17.is)

pub returns-in_default : goal.returns-in_default
unfolding look_by
returns-in_default c =
    simp (
      sym c.about_field.ensures ∙ c.if-about_field.false,
      ne_eqb _ _ c.in_default.in_default-own.rest.0.0.0.0.0.1,
      ne_eqb _ _ c.in_default.in_default-own.rest.0.0.0.0.1,
      ne_eqb _ _ c.in_default.in_default-own.rest.0.0.0.1,
      ne_eqb _ _ c.in_default.in_default-own.rest.0.0.1,
      ne_eqb _ _ c.in_default.in_default-own.rest.0.1,
      ne_eqb _ _ c.in_default.in_default-own.rest.1,
    )
