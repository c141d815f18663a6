-- `hand_to_roots`: the roots of the procedures so far have their parameters.
use Rattle.plan_scopes.specs.Inner.Scopes.{RootsScoped}
use Rattle.plan_scopes.proofs.hand_to_roots.Given as goal

abbrev pub invariant-loop-procedure : goal.invariant-loop-procedure
invariant-loop-procedure l = RootsScoped l.plan l.procedure l.scopes
