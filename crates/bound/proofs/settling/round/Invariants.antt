-- `round`: a procedure that is next gets its cost, another is passed by.
use Rattle.bound.proofs.Rounds.{Going}
use Rattle.bound.proofs.settling.round.Given as goal

abbrev pub invariant-loop-procedure : goal.invariant-loop-procedure
invariant-loop-procedure l = Going l.plan l.calls l.procedures l.before l.procedure l.done l.costs
