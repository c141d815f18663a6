-- `log_row_stores::start` meets its contract. The invariant: so many rows are as they should be. Assumes nothing.
use Rattle.log_row_stores.specs.Inner.Table.{Started}
use Prim.Native.Nat.{◌≤◌}
use lib.ListN.{length}
use Rattle.log_row_stores.proofs.start.Given as goal

abbrev pub invariant-loop-thread : goal.invariant-loop-thread
invariant-loop-thread l = (l.thread ≤ 8) × (8 ≤ length l.initial.table) × Started l.thread l.initial.table l.table
