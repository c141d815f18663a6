-- `last_write` meets its contract: no later record before the access writes its field. Assumes nothing.
use Rattle.log_last_write.proofs.LastWrites.{Earlier}
use Rattle.log_last_write.proofs.last_write.Given as goal

abbrev pub invariant-loop-index : goal.invariant-loop-index
invariant-loop-index l = Earlier l.log l.failing l.index
