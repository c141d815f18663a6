-- `name_roots`: the roots of the procedures so far are named.
use Rattle.format.specs.Inner.Lowest.{Lowest}
use Rattle.plan_packed.specs.Inner.Steps.{Counted, misplaced_root, root_times}
use Rattle.plan_naming.proofs.name_roots.Given as goal

abbrev pub invariant-loop-procedure : goal.invariant-loop-procedure
invariant-loop-procedure l =
    Lowest (misplaced_root l.plan l.procedure) l.count l.best × Counted (root_times l.plan l.procedure) l.times
