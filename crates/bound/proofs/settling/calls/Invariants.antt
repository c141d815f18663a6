-- `calls`: the walk of each body comes to the set of its calls.
use mathlib.Core.Path.{◌≡◌}
use lib.ListN.{length}
use Rattle.bound.specs.Inner.Settling.{Called}
use Rattle.bound.proofs.settling.calls.Given as goal

abbrev pub invariant-loop-procedure : goal.invariant-loop-procedure
invariant-loop-procedure l = (length l.all ≡ 32) × Called l.plan l.procedure l.all
