-- `field_of` meets its contract. Assumes nothing.
use borrow.Author.Tests.{ne_eqb}
use native.Mathlib.Omega.{arith}
use Rattle.run_look.specs.Inner.Look.{field_by}
use Rattle.run_look.proofs.field_of.Goals as goal

pub returns-in-10 : goal.returns-in-10
unfolding field_by
returns-in-10 c = (simp c.in-10.is, omega arith)

pub returns-in-11 : goal.returns-in-11
unfolding field_by
returns-in-11 c = (simp c.in-11.is, omega arith)

pub returns-in_default : goal.returns-in_default
unfolding field_by
returns-in_default c = (simp (ne_eqb _ _ c.in_default.in_default-own.rest.0.1, ne_eqb _ _ c.in_default.in_default-own.rest.1), omega arith)
