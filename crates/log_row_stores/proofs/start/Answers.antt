use Rattle.log_row_stores.proofs.Stores.{started_none, started_eight, started_one_more}
use native.Mathlib.Omega.{arith}
use Rattle.log_row_stores.proofs.start.Goals as goal

pub loop-thread-init : goal.loop-thread-init
loop-thread-init c = (omega arith, c.requires.sized, started_none _ c.requires.sound)

pub loop-thread-preserved : goal.loop-thread-preserved
loop-thread-preserved c = let l = c.loop-thread in (omega arith, l.invariant.1, started_one_more _ _ _ (omega arith) (omega arith) l.invariant.2)

pub returns : goal.returns
returns c = started_eight _ _ _ (omega arith) c.loop-thread.invariant.2
