-- `count` meets its contract. The loop's invariant: what is counted and what is left to count make the whole count. Assumes nothing.
use mathlib.Core.Path.{◌≡◌}
use Prim.Native.Nat.{◌+◌, ◌≤◌}
use lib.ListN.{drop}
use Rattle.run_queue.specs.Inner.Queue.{count_of}
use Rattle.run_queue.proofs.count.Given as goal

abbrev pub invariant-loop-place : goal.invariant-loop-place
invariant-loop-place l = (l.count ≤ l.place-index) × (l.count + count_of l.object (drop l.place-index l.places) ≡ count_of l.object l.places)
