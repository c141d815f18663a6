use Prim.Native.Nat.{ℕ}
use Rattle.format.proofs.Ranges.{NoneOf}
use Rattle.plan_cost_walk.proofs.Conditions.{list_first, list_second, list_walked, end_walked}
use Rattle.plan_cost_walk.proofs.Conditions.{not_call, and_first, and_second, equal_call, not_walked, and_walked, equal_walked}
use Rattle.plan_cost_walk.proofs.Conditions.{rest_walkedᶜ}
use Rattle.plan_cost_walk.proofs.Expressions.{let_call, if_call, while_test_lem, while_body_lem, call_call, synch_call}
use Rattle.plan_cost_walk.proofs.Expressions.{new_walked, read_walked, fork_walked, join_walked, notify_walked, notify_all_walked, wait_walked}
use Rattle.plan_cost_walk.proofs.Expressions.{read_call, fork_call, join_call, wait_call, notify_call, notify_all_call, write_call}
use Rattle.plan_cost_walk.proofs.Expressions.{write_walked, let_walked, if_walked, while_walked, call_walked, synch_walked, rest_walked}
use Rattle.plan_packed.proofs.WalkSteps.{mod_below}
use mathlib.Core.List.{[], ◌∷◌}
use mathlib.Core.Path.{sym, subst, ◌∙◌}
use mathlib.Core.Path.{sym, ◌∙◌}
use native.Mathlib.Omega.{arith}
use Rattle.plan_cost_walk.proofs.+cost_walk.Goals as goal

-- ---- `walk_branches`: a condition, and then each of two expressions.

pub walk_branches-walk_condition-tested-requires : goal.walk_branches-walk_condition-tested-requires
walk_branches-walk_condition-tested-requires t c = (omega arith, (c.requires.ordered, c.requires.test_bound.0))

pub walk_branches-walk_expression-one-requires : goal.walk_branches-walk_expression-one-requires
walk_branches-walk_expression-one-requires t c = (omega arith, (c.requires.ordered, c.requires.test_bound.1))

pub walk_branches-walk_expression-other-requires : goal.walk_branches-walk_expression-other-requires
walk_branches-walk_expression-other-requires t c = (omega arith, (c.requires.ordered, c.requires.test_bound.2))

pub walk_branches-returns : goal.walk_branches-returns
walk_branches-returns t c =
    rw (c.walk_expression-other.ensures, c.walk_expression-one.ensures, c.walk_condition-tested.ensures) at c.branches.ensures

-- ---- `walk_call`: a list, and then a procedure.

pub walk_call-walk_list-passed-requires : goal.walk_call-walk_list-passed-requires
walk_call-walk_list-passed-requires t c = rw c.list_of.ensures (omega arith, (c.requires, mod_below _))

pub walk_call-offset_bounds-table-procedure_of : goal.walk_call-offset_bounds-table-procedure_of
walk_call-offset_bounds-table-procedure_of t c = omega (arith, c.procedure_of.ensures)

pub walk_call-bounds-table-procedure_of : goal.walk_call-bounds-table-procedure_of
walk_call-bounds-table-procedure_of t c = omega (arith, c.procedure_of.ensures)

pub walk_call-returns : goal.walk_call-returns
walk_call-returns t c =
    rw (c.procedure_of.ensures, c.walk_list-passed.ensures, c.list_of.ensures) at c.called.ensures

-- ---- `walk_condition`: a term taken apart once, by its tag.

pub walk_condition-walk_condition-requires : goal.walk_condition-walk_condition-requires
walk_condition-walk_condition-requires t c =
    rw c.first-first.ensures
    (not_call _ c.requires.ordered _ c.decreases
    (sym c.tag.ensures ∙ c.in-13.is))

pub walk_condition-walk_condition-between-requires : goal.walk_condition-walk_condition-between-requires
walk_condition-walk_condition-between-requires t c =
    rw c.first-first.ensures
    (and_first _ c.requires.ordered _ c.decreases
    (sym c.tag.ensures ∙ c.in-14.is))

pub walk_condition-walk_condition-requires-in-14 : goal.walk_condition-walk_condition-requires-in-14
walk_condition-walk_condition-requires-in-14 t c =
    rw c.second-second.ensures
    (and_second _ c.requires.ordered _ c.decreases
    (sym c.tag.ensures ∙ c.in-14.is))

pub walk_condition-walk_two-requires : goal.walk_condition-walk_two-requires
walk_condition-walk_two-requires t c =
    rw (c.first-first.ensures, c.second-second.ensures)
    (equal_call _ c.requires.ordered _ c.decreases
    (sym c.tag.ensures ∙ c.in-15.is))

pub walk_condition-returns-in-13 : goal.walk_condition-returns-in-13
walk_condition-returns-in-13 t c =
    not_walked _ c.requires.ordered _ c.args.counting _ _
    (sym c.tag.ensures ∙ c.in-13.is) c.more-one.ensures
    (rw c.first-first.ensures at c.walk_condition.ensures)

pub walk_condition-returns-in-14 : goal.walk_condition-returns-in-14
walk_condition-returns-in-14 t c =
    and_walked _ c.requires.ordered _ c.args.counting _ _
    (sym c.tag.ensures ∙ c.in-14.is) c.more-one.ensures
    (rw c.first-first.ensures at c.walk_condition-between.ensures)
    (rw c.second-second.ensures at c.walk_condition-in-14.ensures)

pub walk_condition-returns-in-15 : goal.walk_condition-returns-in-15
walk_condition-returns-in-15 t c =
    equal_walked _ c.requires.ordered _ c.args.counting _ _
    (sym c.tag.ensures ∙ c.in-15.is) c.more-one.ensures
    (rw (c.first-first.ensures, c.second-second.ensures) at c.walk_two.ensures)

pub walk_condition-returns-in_default : goal.walk_condition-returns-in_default
walk_condition-returns-in_default t c =
    rest_walkedᶜ _ c.requires.ordered _ c.args.counting _ _
    (subst (λ (x : ℕ). NoneOf x (15 ∷ 14 ∷ 13 ∷ [])) c.tag.ensures c.in_default.in_default-own.rest)

-- ---- `walk_expression`: a term taken apart once, by its tag.

pub walk_expression-walk_expression-requires : goal.walk_expression-walk_expression-requires
walk_expression-walk_expression-requires t c =
    rw c.first-first.ensures
    (read_call _ c.requires.ordered _ c.decreases
    (sym c.tag.ensures ∙ c.in-3.is))

pub walk_expression-walk_two-requires : goal.walk_expression-walk_two-requires
walk_expression-walk_two-requires t c =
    rw (c.first-first.ensures, c.write_second.ensures)
    (write_call _ c.requires.ordered _ c.decreases
    (sym c.tag.ensures ∙ c.in-4.is))

pub walk_expression-walk_two-requires-in-5 : goal.walk_expression-walk_two-requires-in-5
walk_expression-walk_two-requires-in-5 t c =
    rw (c.let_first-value.ensures, c.let_second-body.ensures)
    (let_call _ c.requires.ordered _ c.decreases
    (sym c.tag.ensures ∙ c.in-5.is))

pub walk_expression-walk_branches-requires : goal.walk_expression-walk_branches-requires
walk_expression-walk_branches-requires t c =
    rw (c.first-first.ensures, c.second-second.ensures, c.third.ensures)
    (if_call _ c.requires.ordered _ c.decreases
    (sym c.tag.ensures ∙ c.in-6.is))

pub walk_expression-walk_condition-test-requires : goal.walk_expression-walk_condition-test-requires
walk_expression-walk_condition-test-requires t c =
    rw c.first-first.ensures
    (while_test_lem _ c.requires.ordered _ c.decreases
    (sym c.tag.ensures ∙ c.in-7.is))

pub walk_expression-walk_expression-requires-in-7 : goal.walk_expression-walk_expression-requires-in-7
walk_expression-walk_expression-requires-in-7 t c =
    rw c.second-second.ensures
    (while_body_lem _ c.requires.ordered _ c.decreases
    (sym c.tag.ensures ∙ c.in-7.is))

pub walk_expression-walk_call-requires : goal.walk_expression-walk_call-requires
walk_expression-walk_call-requires t c =
    call_call _ c.requires.ordered _ c.decreases
    (sym c.tag.ensures ∙ c.in-8.is)

pub walk_expression-walk_expression-requires-in-9 : goal.walk_expression-walk_expression-requires-in-9
walk_expression-walk_expression-requires-in-9 t c =
    rw c.first-first.ensures
    (fork_call _ c.requires.ordered _ c.decreases
    (sym c.tag.ensures ∙ c.in-9.is))

pub walk_expression-walk_expression-requires-in-10 : goal.walk_expression-walk_expression-requires-in-10
walk_expression-walk_expression-requires-in-10 t c =
    rw c.first-first.ensures
    (join_call _ c.requires.ordered _ c.decreases
    (sym c.tag.ensures ∙ c.in-10.is))

pub walk_expression-walk_two-requires-in-11 : goal.walk_expression-walk_two-requires-in-11
walk_expression-walk_two-requires-in-11 t c =
    rw (c.first-first.ensures, c.second-second.ensures)
    (synch_call _ c.requires.ordered _ c.decreases
    (sym c.tag.ensures ∙ c.in-11.is))

pub walk_expression-walk_expression-requires-in-18 : goal.walk_expression-walk_expression-requires-in-18
walk_expression-walk_expression-requires-in-18 t c =
    rw c.first-first.ensures
    (wait_call _ c.requires.ordered _ c.decreases
    (sym c.tag.ensures ∙ c.in-18.is))

pub walk_expression-walk_expression-requires-in-19 : goal.walk_expression-walk_expression-requires-in-19
walk_expression-walk_expression-requires-in-19 t c =
    rw c.first-first.ensures
    (notify_call _ c.requires.ordered _ c.decreases
    (sym c.tag.ensures ∙ c.in-19.is))

pub walk_expression-walk_expression-requires-in-20 : goal.walk_expression-walk_expression-requires-in-20
walk_expression-walk_expression-requires-in-20 t c =
    rw c.first-first.ensures
    (notify_all_call _ c.requires.ordered _ c.decreases
    (sym c.tag.ensures ∙ c.in-20.is))

pub walk_expression-returns-in-2 : goal.walk_expression-returns-in-2
walk_expression-returns-in-2 t c =
    new_walked _ c.requires.ordered _ c.args.counting _ _
    (sym c.tag.ensures ∙ c.in-2.is) c.more-one.ensures

pub walk_expression-returns-in-3 : goal.walk_expression-returns-in-3
walk_expression-returns-in-3 t c =
    read_walked _ c.requires.ordered _ c.args.counting _ _
    (sym c.tag.ensures ∙ c.in-3.is) c.more-one.ensures
    (rw c.first-first.ensures at c.walk_expression.ensures)

pub walk_expression-returns-in-4 : goal.walk_expression-returns-in-4
walk_expression-returns-in-4 t c =
    write_walked _ c.requires.ordered _ c.args.counting _ _
    (sym c.tag.ensures ∙ c.in-4.is) c.more-one.ensures
    (rw (c.first-first.ensures, c.write_second.ensures) at c.walk_two.ensures)

pub walk_expression-returns-in-5 : goal.walk_expression-returns-in-5
walk_expression-returns-in-5 t c =
    let_walked _ c.requires.ordered _ c.args.counting _ _
    (sym c.tag.ensures ∙ c.in-5.is) c.more-one.ensures
    (rw (c.let_first-value.ensures, c.let_second-body.ensures) at c.walk_two-in-5.ensures)

pub walk_expression-returns-in-6 : goal.walk_expression-returns-in-6
walk_expression-returns-in-6 t c =
    if_walked _ c.requires.ordered _ c.args.counting _ _
    (sym c.tag.ensures ∙ c.in-6.is) c.more-one.ensures
    (rw (c.first-first.ensures, c.second-second.ensures, c.third.ensures) at c.walk_branches.ensures)

pub walk_expression-returns-in-7 : goal.walk_expression-returns-in-7
walk_expression-returns-in-7 t c =
    while_walked _ c.requires.ordered _ c.args.counting _ _
    (sym c.tag.ensures ∙ c.in-7.is) c.more-one.ensures
    (rw c.first-first.ensures at c.walk_condition-test.ensures)
    (rw c.second-second.ensures at c.walk_expression-in-7.ensures)

pub walk_expression-returns-in-8 : goal.walk_expression-returns-in-8
walk_expression-returns-in-8 t c =
    call_walked _ c.requires.ordered _ c.args.counting _ _
    (sym c.tag.ensures ∙ c.in-8.is) c.more-one.ensures
    c.walk_call.ensures

pub walk_expression-returns-in-9 : goal.walk_expression-returns-in-9
walk_expression-returns-in-9 t c =
    fork_walked _ c.requires.ordered _ c.args.counting _ _
    (sym c.tag.ensures ∙ c.in-9.is) c.more-one.ensures
    (rw c.first-first.ensures at c.walk_expression-in-9.ensures)

pub walk_expression-returns-in-10 : goal.walk_expression-returns-in-10
walk_expression-returns-in-10 t c =
    join_walked _ c.requires.ordered _ c.args.counting _ _
    (sym c.tag.ensures ∙ c.in-10.is) c.more-one.ensures
    (rw c.first-first.ensures at c.walk_expression-in-10.ensures)

pub walk_expression-returns-in-11 : goal.walk_expression-returns-in-11
walk_expression-returns-in-11 t c =
    synch_walked _ c.requires.ordered _ c.args.counting _ _
    (sym c.tag.ensures ∙ c.in-11.is) c.more-one.ensures
    c.more.ensures
    (rw (c.first-first.ensures, c.second-second.ensures) at c.walk_two-in-11.ensures)

pub walk_expression-returns-in-18 : goal.walk_expression-returns-in-18
walk_expression-returns-in-18 t c =
    wait_walked _ c.requires.ordered _ c.args.counting _ _
    (sym c.tag.ensures ∙ c.in-18.is) c.more-one.ensures
    c.more-in-18.ensures
    (rw c.first-first.ensures at c.walk_expression-in-18.ensures)

pub walk_expression-returns-in-19 : goal.walk_expression-returns-in-19
walk_expression-returns-in-19 t c =
    notify_walked _ c.requires.ordered _ c.args.counting _ _
    (sym c.tag.ensures ∙ c.in-19.is) c.more-one.ensures
    (rw c.first-first.ensures at c.walk_expression-in-19.ensures)

pub walk_expression-returns-in-20 : goal.walk_expression-returns-in-20
walk_expression-returns-in-20 t c =
    notify_all_walked _ c.requires.ordered _ c.args.counting _ _
    (sym c.tag.ensures ∙ c.in-20.is) c.more-one.ensures
    (rw c.first-first.ensures at c.walk_expression-in-20.ensures)

pub walk_expression-returns-in_default : goal.walk_expression-returns-in_default
walk_expression-returns-in_default t c =
    rest_walked _ c.requires.ordered _ c.args.counting _ _
    (subst (λ (x : ℕ). NoneOf x (20 ∷ 19 ∷ 18 ∷ 11 ∷ 10 ∷ 9 ∷ 8 ∷ 7 ∷ 6 ∷ 5 ∷ 4 ∷ 3 ∷ 2 ∷ [])) c.tag.ensures c.in_default.in_default-own.rest)

-- ---- `walk_list`: an argument, and then the rest.

pub walk_list-returns-then-tag-ne-LIST : goal.walk_list-returns-then-tag-ne-LIST
walk_list-returns-then-tag-ne-LIST t c = end_walked _ c.requires.ordered _ c.args.counting _ _ (λ e. c.if-tag-ne-LIST.true (c.tag.ensures ∙ e))

pub walk_list-walk_expression-between-requires : goal.walk_list-walk_expression-between-requires
walk_list-walk_expression-between-requires t c =
    rw c.first.ensures (list_first _ c.requires.ordered _ c.decreases (sym c.tag.ensures ∙ c.if-tag-ne-LIST.false))

pub walk_list-walk_list-requires : goal.walk_list-walk_list-requires
walk_list-walk_list-requires t c =
    rw c.second.ensures (list_second _ c.requires.ordered _ c.decreases (sym c.tag.ensures ∙ c.if-tag-ne-LIST.false))

pub walk_list-returns : goal.walk_list-returns
walk_list-returns t c =
    list_walked _ c.requires.ordered _ c.args.counting _ _ (sym c.tag.ensures ∙ c.if-tag-ne-LIST.false)
    (rw c.first.ensures at c.walk_expression-between.ensures)
    (rw c.second.ensures at c.walk_list.ensures)

-- ---- `walk_two`: an expression, and then another.

pub walk_two-walk_expression-between-requires : goal.walk_two-walk_expression-between-requires
walk_two-walk_expression-between-requires t c = (omega arith, (c.requires.ordered, c.requires.first_bound.0))

pub walk_two-walk_expression-requires : goal.walk_two-walk_expression-requires
walk_two-walk_expression-requires t c = (omega arith, (c.requires.ordered, c.requires.first_bound.1))

pub walk_two-returns : goal.walk_two-returns
walk_two-returns t c = rw c.walk_expression-between.ensures at c.walk_expression.ensures
