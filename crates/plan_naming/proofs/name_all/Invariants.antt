-- `name_all`: the roots and the terms so far have named their own.
use Rattle.format.specs.Inner.Lowest.{Lowest}
use Rattle.plan_packed.specs.Inner.Steps.{Counted, faults, all_times}
use Rattle.plan_naming.proofs.name_all.Given as goal

abbrev pub invariant-loop-term : goal.invariant-loop-term
invariant-loop-term l =
    Lowest (faults l.plan l.term) l.count l.best × Counted (all_times l.plan l.term) l.times
