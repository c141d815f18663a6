-- `load`: the terms so far are right, their 40 bits are in the array, their names noted and their scopes handed on.
use mathlib.Core.Path.{◌≡◌}
use mathlib.Core.Bool.{false}
use Prim.Native.Nat.{ℕ, ◌<◌}
use Rattle.plan_packed.specs.Refusals.{wrong_term}
use Rattle.plan_packed.specs.Inner.Steps.{Loaded, TermsNoted}
use Rattle.plan_scopes.specs.Inner.Scopes.{TermsScoped}
use Rattle.plan_terms.proofs.table.load.Given as goal

abbrev pub invariant-loop-term : goal.invariant-loop-term
invariant-loop-term l = record {
  right : (k : ℕ) → k < l.term → wrong_term l.plan k ≡ false;
  loaded : Loaded l.plan l.term l.words;
  noted : TermsNoted l.plan l.term l.notes;
  scoped : TermsScoped l.plan l.term l.scopes;
}
