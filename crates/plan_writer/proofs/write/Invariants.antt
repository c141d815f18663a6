-- `write` meets its contract. Assumes nothing.
use Rattle.plan_writer.proofs.HeldAreas.{At}
use Rattle.plan_writer.proofs.write.Given as goal

abbrev pub invariant-loop-procedure : goal.invariant-loop-procedure
invariant-loop-procedure l =
    At l.words l.roots l.counts l.procedures l.terms l.initial.area l.procedure l.number l.area
