-- `branches`: by what is asked.
use native.Mathlib.Omega.{arith}
use Rattle.plan_cost_walk.proofs.branches.Goals as goal

pub returns-then-counting : goal.returns-then-counting
returns-then-counting c = rw c.if-counting.true (omega arith)

pub returns-else-counting : goal.returns-else-counting
returns-else-counting c = rw c.if-counting.false
