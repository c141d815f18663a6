-- `settle`: rounds, until one changes nothing.
use Prim.Native.Nat.{◌-◌, ◌^◌}
use Rattle.bound.specs.Inner.Settling.{Settled}
use Rattle.bound.proofs.settling.settle.Given as goal

abbrev pub invariant-loop-done : goal.invariant-loop-done
invariant-loop-done l = Settled l.plan l.done l.costs

-- a set that gains elements rises by number
abbrev pub decreases-loop-done : goal.decreases-loop-done
decreases-loop-done l = 2 ^ 32 - l.done
