-- `least` meets its contract: the table of the last record, and that before it. Assumes nothing.
use Rattle.log_limits.specs.Inner.Limits.{least_bits}
use Rattle.log_limits.proofs.least.Goals as goal

pub returns-then-last : goal.returns-then-last
unfolding least_bits
returns-then-last c = rw c.if-last.true

pub returns : goal.returns
unfolding least_bits
returns c = rw c.if-last.false
