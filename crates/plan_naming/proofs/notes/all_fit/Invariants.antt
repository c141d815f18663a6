-- `all_fit`: the terms so far are right for checks 5 and 6.
use Rattle.plan_packed.specs.Inner.Steps.{Fitting}
use Rattle.plan_naming.proofs.notes.all_fit.Given as goal

abbrev pub invariant-loop-term : goal.invariant-loop-term
invariant-loop-term l = Fitting l.plan l.term
