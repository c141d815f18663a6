-- `log_clocks::lower` meets its contract. The invariant: whether one of the clocks so far is lower. Assumes nothing.
use Rattle.log_clocks.specs.Inner.Rows.{lower_of}
use mathlib.Core.Path.{◌≡◌}
use Prim.Native.Nat.{◌≤◌}
use Rattle.log_clocks.proofs.lower.Given as goal

abbrev pub invariant-loop-thread : goal.invariant-loop-thread
invariant-loop-thread l = (l.thread ≤ 8) × (l.found ≡ lower_of l.thread l.own l.heard)
