-- `gather` meets its contract. The loop's invariant: what is still to be taken from here comes to the same as all. Assumes nothing.
use mathlib.Core.Path.{◌≡◌}
use Prim.Native.Nat.{◌<◌, ◌-◌}
use Rattle.run_refocusing_step.specs.Inner.Ahead.{gathered_of}
use Rattle.run_refocusing_step.proofs.gather.Given as goal

abbrev pub invariant-loop-more : goal.invariant-loop-more
invariant-loop-more l = (0 < l.more) × (gathered_of (l.more - 1) l.words l.frame ≡ gathered_of (l.left - 1) l.words l.initial.frame)
