-- `more`: by what is asked.
use Rattle.plan_cost_walk.proofs.more.Goals as goal

pub returns-then-counting : goal.returns-then-counting
returns-then-counting c = rw c.if-counting.true c.capped_sum.ensures

pub returns-else-counting : goal.returns-else-counting
returns-else-counting c = rw c.if-counting.false
