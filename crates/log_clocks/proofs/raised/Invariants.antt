-- `log_clocks::raised` meets its contract. The invariant: the clocks so far are the higher of two. Assumes nothing.
use Rattle.log_clocks.specs.Inner.Rows.{clock_of}
use lib.ListN.{length, get_or}
use mathlib.Core.Path.{◌≡◌}
use Prim.Native.Nat.{ℕ, ◌<◌, ◌≤◌, max}
use Rattle.log_clocks.proofs.raised.Given as goal

abbrev pub invariant-loop-thread : goal.invariant-loop-thread
invariant-loop-thread l = (l.thread ≤ 8) × (length l.clocks ≡ 8) × ((k : ℕ) → k < l.thread → get_or l.clocks k 0 ≡ max (clock_of l.row k) (clock_of l.told k))
