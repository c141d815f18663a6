-- `mark` meets its contract. The invariant is `Going`: the wanted ports are a state of the definition's pass. Assumes nothing.
use Rattle.log_marking.proofs.Pass.{Going}
use Rattle.log_marking.proofs.mark.Given as goal

abbrev pub invariant-loop-index : goal.invariant-loop-index
invariant-loop-index l = Going l.log l.failing l.last l.index l.wanted l.kept l.initial.kept
