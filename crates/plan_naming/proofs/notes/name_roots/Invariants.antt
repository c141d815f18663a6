-- `name_roots`: the roots of the procedures so far are noted.
use Rattle.plan_packed.specs.Inner.Steps.{RootsNoted}
use Rattle.plan_naming.proofs.notes.name_roots.Given as goal

abbrev pub invariant-loop-procedure : goal.invariant-loop-procedure
invariant-loop-procedure l = RootsNoted l.plan l.procedure l.notes
