-- `moved` meets its contract. Assumes nothing.
use native.Mathlib.Omega.{arith}
use borrow.Author.Rules.{rules}
use Rattle.run_pick.proofs.moved.Goals as goal

pub overflow_cast-learnt : goal.overflow_cast-learnt
overflow_cast-learnt c = record { fits = omega (arith, c.struct_known-2-1.given.1.1.1.1.1.1.0) }

pub overflow_add-learnt : goal.overflow_add-learnt
overflow_add-learnt c = record { fits = omega (arith, c.struct_known-2-1.given.1.1.1.1.1.1.0) }
