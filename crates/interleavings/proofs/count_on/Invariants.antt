-- `count_on` meets its contract. Assumes nothing.
use Rattle.std.proofs.Common.{◌≡◌, ◌≤◌, ◌-◌, length}
use Rattle.interleavings.specs.Inner.Steps.{Stands}
use Rattle.interleavings.proofs.count_on.Given as goal

abbrev pub invariant-loop-place : goal.invariant-loop-place
invariant-loop-place l = Stands l.plan l.words l.n l.area l.picks l.place × (l.place ≤ l.limit) × (length l.area ≡ length l.initial.area)

abbrev pub decreases-loop-place : goal.decreases-loop-place
decreases-loop-place l = l.limit - l.place
