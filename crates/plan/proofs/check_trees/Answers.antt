-- `check_trees`: checks 5 and 6, then check 7, by the scopes or by the walk.
use mathlib.Core.Path.{◌≡◌, refl, sym, ◌∙◌}
use mathlib.Core.Option.{some, none}
use native.Mathlib.Omega.{arith}
use Rattle.format.specs.Refusal.{lowest, refuse, first_refusal}
use Rattle.format.proofs.LowestLaws.{found_none, missed, struck}
use Rattle.plan_packed.specs.Format.{procedures}
use Rattle.plan_packed.specs.Refusals.{uses_unbound_slot}
use Rattle.plan_packed.specs.Check.{checks}
use Rattle.plan_refusals.specs.Answer.{answered}
use Rattle.plan_refusals.proofs.Stages.{told}
use Rattle.std.specs.Prelude.{Ok, Err}
use Rattle.std.proofs.lemmas.Result.{err_from_is_err_and}
use Rattle.plan_refusals.proofs.Stages.{told}
use Rattle.std.specs.Prelude.{Ok, Err}
use Rattle.plan.proofs.Stages.{by_names, named_once, by_slots}
use Rattle.plan.proofs.check_trees.Goals as goal

pub returns-in_err-check_names : goal.returns-in_err-check_names
returns-in_err-check_names c =
    let p = err_from_is_err_and c.from_residual.result c.from_residual.ensures.1 in
    rw (p.1, p.2) (by_names _ _ _ c.in_err-check_names.ensures refl)

pub all_bound-requires-clause-by_index : goal.all_bound-requires-clause-by_index
all_bound-requires-clause-by_index c t h =
    named_once c.args.plan.now _ c.in_ok-check_names.ensures refl t (rw (← c.requires.right.headed.sized.terms_are) h)

pub returns-then-all_bound : goal.returns-then-all_bound
unfolding answered refuse first_refusal checks
returns-then-all_bound c =
    let b = c.args.plan.now in
    let m7 : lowest (uses_unbound_slot b) (procedures b) ≡ none =
    missed (uses_unbound_slot b) _ (procedures b) _ c.requires.right.headed.sized.procedures_are
    (found_none (uses_unbound_slot b) c.args.procedures c.args.procedures (omega arith) (omega arith) (c.all_bound.ensures c.if-all_bound.true))
    (omega arith) in
    by_slots b _ (Ok tt) c.in_ok-check_names.ensures refl (sym (rw m7))

pub returns-then-open-procedures : goal.returns-then-open-procedures
unfolding answered refuse first_refusal checks
returns-then-open-procedures c =
    let b = c.args.plan.now in
    let m7 : lowest (uses_unbound_slot b) (procedures b) ≡ some c.lowest_open-open.result =
    struck (uses_unbound_slot b) _ (procedures b) _ c.requires.right.headed.sized.procedures_are c.lowest_open-open.ensures
    c.if-open-procedures.true in
    by_slots b _ (Err c.at.result) c.in_ok-check_names.ensures refl (told c.at.ensures ∙ sym (rw m7))

pub returns : goal.returns
unfolding answered refuse first_refusal checks
returns c =
    let b = c.args.plan.now in
    let m7 : lowest (uses_unbound_slot b) (procedures b) ≡ none =
    missed (uses_unbound_slot b) _ (procedures b) _ c.requires.right.headed.sized.procedures_are c.lowest_open-open.ensures c.if-open-procedures.false in
    by_slots b _ (Ok tt) c.in_ok-check_names.ensures refl (sym (rw m7))
