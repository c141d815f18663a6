-- `put` meets its contract. Assumes nothing.
use borrow.Author.Tests.{eq-eqb, ne_eqb}
use native.Mathlib.Omega.{arith}
use Rattle.run_tally.specs.Inner.Tally.{records_after, log_put}
use borrow.Author.Rules.{rules}
use Rattle.run_tally.proofs.put.Goals as goal

pub returns-then-number-eq-NONE : goal.returns-then-number-eq-NONE
unfolding records_after log_put
returns-then-number-eq-NONE c = let t = eq-eqb _ _ c.if-number-eq-NONE.true in record { value = (simp t, omega arith); log_after = simp t }

pub returns : goal.returns
unfolding records_after log_put
returns c =
    let t = ne_eqb _ _ c.if-number-eq-NONE.false in record { value = (simp t, omega arith); log_after = simp t c.put_columns.ensures }
