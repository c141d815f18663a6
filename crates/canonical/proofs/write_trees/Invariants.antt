-- `write_trees` meets its contract. Assumes nothing.
use Rattle.canonical.proofs.Procedures.{At}
use Rattle.canonical.proofs.write_trees.Given as goal

abbrev pub invariant-loop-procedure : goal.invariant-loop-procedure
invariant-loop-procedure l = At l.plan l.initial.area l.procedure l.number l.area
