-- `log_clocks::raised_to` meets its contract. The invariant: the clocks so far are the higher of two. Assumes nothing.
use Rattle.log_clocks.specs.Inner.Rows.{clock_of}
use lib.ListN.{length, get_or}
use mathlib.Core.Path.{◌≡◌}
use Prim.Native.Nat.{ℕ, ◌<◌, ◌≤◌, max, min}
use Rattle.log_clocks.proofs.raised_to.Given as goal

abbrev pub invariant-loop-thread : goal.invariant-loop-thread
invariant-loop-thread l =
    (l.thread ≤ 8) × (length l.clocks ≡ 8) × ((k : ℕ) → k < l.thread → get_or l.clocks k 0 ≡ max (clock_of l.row k) (min (clock_of l.told k) l.most))
