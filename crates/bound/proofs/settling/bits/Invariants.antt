-- `bits`: the sets of each procedure alone, one after the other.
use Rattle.bound.specs.Inner.Settling.{Bits}
use Rattle.bound.proofs.settling.bits.Given as goal

abbrev pub invariant-loop-procedure : goal.invariant-loop-procedure
invariant-loop-procedure l = Bits l.procedure l.all
