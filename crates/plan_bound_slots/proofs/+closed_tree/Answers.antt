use Prim.Native.Nat.{ℕ, ◌<◌}
use Rattle.format.proofs.Ranges.{NoneOf}
use Rattle.plan_bound_slots.proofs.Conditions.{before_truth, childless, equal_call, equal_next, equal_told, past_not}
use Rattle.plan_bound_slots.proofs.Expressions.{call_left, call_list, fork_left, if_call, if_left, if_open, if_test, join_left, leaf_closed, leaf_open}
use Rattle.plan_bound_slots.proofs.Expressions.{let_call, let_left, nothing_left, notify_all_left, notify_left, read_left, synch_call, synch_left}
use Rattle.plan_bound_slots.proofs.Expressions.{variable_left, wait_left, while_left, while_open, while_test_lem, write_call, write_left}
use Rattle.plan_bound_slots.proofs.Lists.{ended, next}
use Rattle.plan_bound_slots.proofs.Turns.{start}
use Rattle.plan_bound_slots.specs.Inner.Left.{After, seen}
use Rattle.plan_packed.proofs.WalkSteps.{here, just}
use mathlib.Core.List.{[], ◌∷◌}
use mathlib.Core.Path.{ap, refl, subst, sym, ◌∙◌}
use native.Mathlib.Omega.{arith}
use Rattle.plan_bound_slots.proofs.Conditions as conditions_lemmas
use Rattle.plan_bound_slots.proofs.Expressions as expressions_lemmas
use Rattle.plan_bound_slots.proofs.Lists as lists_lemmas
use Rattle.plan_bound_slots.proofs.+closed_tree.Goals as goal

-- ---- `closed_condition`: each turn of the loop sees a term, and goes on with one of its operands.

pub closed_condition-loop-term-init : goal.closed_condition-loop-term-init
closed_condition-loop-term-init t c = start c.requires.ordered c.requires.from_bound

pub closed_condition-loop-term-smaller-in-13 : goal.closed_condition-loop-term-smaller-in-13
closed_condition-loop-term-smaller-in-13 t c =
    rw (c.first-first.ensures, c.word-word.ensures) (past_not _ _ c.loop-term.invariant (rw c.word-word.ensures at (sym c.tag.ensures ∙ c.in-13.is))).0

pub closed_condition-loop-term-preserved-in-13 : goal.closed_condition-loop-term-preserved-in-13
closed_condition-loop-term-preserved-in-13 t c =
    rw (c.first-first.ensures, c.word-word.ensures) (past_not _ _ c.loop-term.invariant (rw c.word-word.ensures at (sym c.tag.ensures ∙ c.in-13.is))).1

pub closed_condition-loop-term-smaller-then-tag-eq-TRUE : goal.closed_condition-loop-term-smaller-then-tag-eq-TRUE
closed_condition-loop-term-smaller-then-tag-eq-TRUE t c =
    rw (c.first-first.ensures, c.word-word.ensures)
    (before_truth _ _ c.loop-term.invariant (rw c.word-word.ensures at (sym c.tag.ensures ∙ c.in-14.is))
    (rw (c.word.ensures, c.second-second.ensures, c.word-word.ensures) at (sym c.tag-in-14.ensures ∙ c.if-tag-eq-TRUE.true))).0

pub closed_condition-loop-term-preserved-then-tag-eq-TRUE : goal.closed_condition-loop-term-preserved-then-tag-eq-TRUE
closed_condition-loop-term-preserved-then-tag-eq-TRUE t c =
    rw (c.first-first.ensures, c.word-word.ensures)
    (before_truth _ _ c.loop-term.invariant (rw c.word-word.ensures at (sym c.tag.ensures ∙ c.in-14.is))
    (rw (c.word.ensures, c.second-second.ensures, c.word-word.ensures) at (sym c.tag-in-14.ensures ∙ c.if-tag-eq-TRUE.true))).1

pub closed_condition-closed_condition-requires : goal.closed_condition-closed_condition-requires
closed_condition-closed_condition-requires t c =
    rw (c.first-first.ensures, c.word-word.ensures)
    (conditions_lemmas.first_call _ _ c.loop-term.invariant (rw c.word-word.ensures at (sym c.tag.ensures ∙ c.in-14.is))
    c.decreases)

pub closed_condition-returns-then-not-closed_condition : goal.closed_condition-returns-then-not-closed_condition
closed_condition-returns-then-not-closed_condition t c =
    conditions_lemmas.first_open _ _ c.loop-term.invariant (rw c.word-word.ensures at (sym c.tag.ensures ∙ c.in-14.is))
    (rw (c.first-first.ensures, c.word-word.ensures) at (sym c.closed_condition.ensures ∙ c.if-not-closed_condition.true))

pub closed_condition-loop-term-smaller : goal.closed_condition-loop-term-smaller
closed_condition-loop-term-smaller t c =
    rw (c.second-second.ensures, c.word-word.ensures)
    (conditions_lemmas.first_closed _ _ c.loop-term.invariant (rw c.word-word.ensures at (sym c.tag.ensures ∙ c.in-14.is))
    (rw (c.first-first.ensures, c.word-word.ensures) at (sym c.closed_condition.ensures ∙ c.if-not-closed_condition.false))).0

pub closed_condition-loop-term-preserved : goal.closed_condition-loop-term-preserved
closed_condition-loop-term-preserved t c =
    rw (c.second-second.ensures, c.word-word.ensures)
    (conditions_lemmas.first_closed _ _ c.loop-term.invariant (rw c.word-word.ensures at (sym c.tag.ensures ∙ c.in-14.is))
    (rw (c.first-first.ensures, c.word-word.ensures) at (sym c.closed_condition.ensures ∙ c.if-not-closed_condition.false))).1

pub closed_condition-rest_of_two-rest-requires : goal.closed_condition-rest_of_two-rest-requires
closed_condition-rest_of_two-rest-requires t c =
    rw (c.first-first.ensures, c.second-second.ensures, c.word-word.ensures)
    (equal_call _ _ c.loop-term.invariant (rw c.word-word.ensures at (sym c.tag.ensures ∙ c.in-15.is))
    c.decreases)

pub closed_condition-returns-in-Break : goal.closed_condition-returns-in-Break
unfolding seen
closed_condition-returns-in-Break t c =
    let r = c.rest_of_two-rest in
    equal_told _ _ c.loop-term.invariant (rw c.word-word.ensures at (sym c.tag.ensures ∙ c.in-15.is)) r.result (
      rw (c.first-first.ensures, c.second-second.ensures, c.word-word.ensures) at r.ensures.result_value,
      rw (c.first-first.ensures, c.second-second.ensures, c.word-word.ensures) at r.ensures.by_index,
    ) _ c.in-Break.is

pub closed_condition-closed_expression-requires : goal.closed_condition-closed_expression-requires
closed_condition-closed_expression-requires t c =
    let r = c.rest_of_two-rest in
    equal_next _ _ c.loop-term.invariant (rw c.word-word.ensures at (sym c.tag.ensures ∙ c.in-15.is)) r.result (
      rw (c.first-first.ensures, c.second-second.ensures, c.word-word.ensures) at r.ensures.result_value,
      rw (c.first-first.ensures, c.second-second.ensures, c.word-word.ensures) at r.ensures.by_index,
    ) t _ _
    c.decreases c.in-Continue.is

pub closed_condition-returns-in-Continue : goal.closed_condition-returns-in-Continue
unfolding seen
closed_condition-returns-in-Continue t c =
    let r = c.rest_of_two-rest in
    c.closed_expression.ensures ∙ equal_told _ _ c.loop-term.invariant (rw c.word-word.ensures at (sym c.tag.ensures ∙ c.in-15.is))
    r.result (
      rw (c.first-first.ensures, c.second-second.ensures, c.word-word.ensures) at r.ensures.result_value,
      rw (c.first-first.ensures, c.second-second.ensures, c.word-word.ensures) at r.ensures.by_index,
    ) _
    c.in-Continue.is

pub closed_condition-returns-in_default : goal.closed_condition-returns-in_default
closed_condition-returns-in_default t c = childless _ _ c.loop-term.invariant
    (rw c.word-word.ensures at (subst (λ (x : ℕ). NoneOf x (15 ∷ 14 ∷ 13 ∷ [])) c.tag.ensures c.in_default.in_default-own.rest))

-- ---- `closed_expression`: each turn of the loop takes a term apart, and goes on with what is left of it.

pub closed_expression-loop-closed-init : goal.closed_expression-loop-closed-init
closed_expression-loop-closed-init t c = (omega arith, c.requires.from_bound, refl)

pub closed_expression-rest_of-rest-requires : goal.closed_expression-rest_of-rest-requires
closed_expression-rest_of-rest-requires t c = let l = c.loop-closed in (
  here t c.args.from l.term c.decreases l.invariant.0,
  (c.requires.ordered, l.invariant.1),
)

pub closed_expression-returns-in-Break : goal.closed_expression-returns-in-Break
unfolding seen
closed_expression-returns-in-Break t c = sym (ap (seen c.args.words.now) c.in-Break.is) ∙ c.rest_of-rest.ensures.result_value ∙ c.loop-closed.invariant.2

pub closed_expression-loop-closed-smaller : goal.closed_expression-loop-closed-smaller
closed_expression-loop-closed-smaller t c = let q = subst (After _) c.in-Continue.is c.rest_of-rest.ensures.after in omega (arith, q.0, q.1)

pub closed_expression-loop-closed-preserved : goal.closed_expression-loop-closed-preserved
unfolding seen
closed_expression-loop-closed-preserved t c =
    let l = c.loop-closed in
    let r = c.rest_of-rest.ensures in
    let e = c.in-Continue.is in
    let q = subst (After l.term) e r.after in
    (omega (arith, q.0, l.invariant.0), q.1, sym (ap (seen c.args.words.now) e) ∙ r.result_value ∙ l.invariant.2)

-- ---- `closed_list`: each turn of the loop sees an argument, and goes on with the rest.

pub closed_list-loop-from-init : goal.closed_list-loop-from-init
closed_list-loop-from-init t c = start c.requires.ordered c.requires.from_bound

pub closed_list-returns-then-tag-ne-LIST : goal.closed_list-returns-then-tag-ne-LIST
closed_list-returns-then-tag-ne-LIST t c = ended _ _ c.loop-from.invariant (λ e. c.if-tag-ne-LIST.true (rw c.word-word.ensures at c.tag.ensures ∙ e))

pub closed_list-closed_expression-requires : goal.closed_list-closed_expression-requires
closed_list-closed_expression-requires t c =
    rw (c.first.ensures, c.word-word.ensures)
    (lists_lemmas.first_call _ _ c.loop-from.invariant (rw c.word-word.ensures at (sym c.tag.ensures ∙ c.if-tag-ne-LIST.false)) c.decreases)

pub closed_list-returns-then-not-closed_expression : goal.closed_list-returns-then-not-closed_expression
closed_list-returns-then-not-closed_expression t c =
    lists_lemmas.first_open _ _ c.loop-from.invariant (rw c.word-word.ensures at (sym c.tag.ensures ∙ c.if-tag-ne-LIST.false))
    (rw (c.first.ensures, c.word-word.ensures) at (sym c.closed_expression.ensures ∙ c.if-not-closed_expression.true))

pub closed_list-loop-from-smaller : goal.closed_list-loop-from-smaller
closed_list-loop-from-smaller t c = rw (c.second-term.ensures, c.word-word.ensures)
    (next _ _ c.loop-from.invariant (rw c.word-word.ensures at (sym c.tag.ensures ∙ c.if-tag-ne-LIST.false))
    (rw (c.first.ensures, c.word-word.ensures) at
    (sym c.closed_expression.ensures ∙ c.if-not-closed_expression.false))).0

pub closed_list-loop-from-preserved : goal.closed_list-loop-from-preserved
closed_list-loop-from-preserved t c = rw (c.second-term.ensures, c.word-word.ensures)
    (next _ _ c.loop-from.invariant (rw c.word-word.ensures at (sym c.tag.ensures ∙ c.if-tag-ne-LIST.false))
    (rw (c.first.ensures, c.word-word.ensures) at
    (sym c.closed_expression.ensures ∙ c.if-not-closed_expression.false))).1

-- ---- `rest_of`: a term taken apart once, by its tag.

pub rest_of-holds-requires : goal.rest_of-holds-requires
rest_of-holds-requires t c = omega (arith, c.slot_of.ensures)

pub rest_of-rest_of_two-requires : goal.rest_of-rest_of_two-requires
rest_of-rest_of_two-requires t c =
    rw (c.first-first.ensures, c.write_second.ensures, c.word-word.ensures)
    (write_call _ c.requires.ordered _ c.decreases
    (rw c.word-word.ensures at (sym c.tag.ensures ∙ c.in-4.is)))

pub rest_of-with-inner-requires : goal.rest_of-with-inner-requires
rest_of-with-inner-requires t c = omega (arith, c.slot_of-in-5.ensures)

pub rest_of-rest_of_two-requires-in-5 : goal.rest_of-rest_of_two-requires-in-5
rest_of-rest_of_two-requires-in-5 t c =
    rw (c.let_first-value.ensures, c.let_second-body.ensures, c.word-word.ensures)
    (let_call _ c.requires.ordered _ c.decreases
    (rw c.word-word.ensures at (sym c.tag.ensures ∙ c.in-5.is)))

pub rest_of-closed_condition-requires : goal.rest_of-closed_condition-requires
rest_of-closed_condition-requires t c =
    rw (c.first-first.ensures, c.word-word.ensures)
    (if_test _ c.requires.ordered _ c.decreases (rw c.word-word.ensures at (sym c.tag.ensures ∙ c.in-6.is)))

pub rest_of-rest_of_two-requires-then-closed_condition : goal.rest_of-rest_of_two-requires-then-closed_condition
rest_of-rest_of_two-requires-then-closed_condition t c =
    rw (c.second-second.ensures, c.third.ensures, c.word-word.ensures)
    (if_call _ c.requires.ordered _ c.decreases
    (rw c.word-word.ensures at (sym c.tag.ensures ∙ c.in-6.is)))

pub rest_of-returns-then-closed_condition : goal.rest_of-returns-then-closed_condition
rest_of-returns-then-closed_condition t c =
    let p = if_left _ c.requires.ordered _ _ _ (rw c.word-word.ensures at (sym c.tag.ensures ∙ c.in-6.is))
    (rw (c.first-first.ensures, c.word-word.ensures) at (sym c.closed_condition.ensures ∙ c.if-closed_condition.true)) (
      rw (c.second-second.ensures, c.third.ensures, c.word-word.ensures) at c.rest_of_two-then-closed_condition.ensures.result_value,
      rw (c.second-second.ensures, c.third.ensures, c.word-word.ensures) at c.rest_of_two-then-closed_condition.ensures.by_index,
    ) in
    record { result_value = p.0; after = p.1 }

pub rest_of-closed_condition-requires-in-7 : goal.rest_of-closed_condition-requires-in-7
rest_of-closed_condition-requires-in-7 t c =
    rw (c.first-first.ensures, c.word-word.ensures)
    (while_test_lem _ c.requires.ordered _ c.decreases
    (rw c.word-word.ensures at (sym c.tag.ensures ∙ c.in-7.is)))

pub rest_of-returns-then-closed_condition-2 : goal.rest_of-returns-then-closed_condition-2
rest_of-returns-then-closed_condition-2 t c =
    rw (c.second-second.ensures, c.word-word.ensures)
    (let p = while_left _ c.requires.ordered _ _ (rw c.word-word.ensures at (sym c.tag.ensures ∙ c.in-7.is))
    (rw (c.first-first.ensures, c.word-word.ensures) at (sym c.closed_condition-in-7.ensures ∙ c.if-closed_condition-2.true)) in
    record { result_value = p.0; after = p.1 })

pub rest_of-closed_list-requires : goal.rest_of-closed_list-requires
rest_of-closed_list-requires t c =
    rw (c.list_of.ensures, c.word-word.ensures)
    (call_list _ c.requires.ordered _ c.decreases
    (rw c.word-word.ensures at (sym c.tag.ensures ∙ c.in-8.is)))

pub rest_of-rest_of_two-requires-in-11 : goal.rest_of-rest_of_two-requires-in-11
rest_of-rest_of_two-requires-in-11 t c =
    rw (c.first-first.ensures, c.second-second.ensures, c.word-word.ensures)
    (synch_call _ c.requires.ordered _ c.decreases
    (rw c.word-word.ensures at (sym c.tag.ensures ∙ c.in-11.is)))

pub rest_of-returns-in-1 : goal.rest_of-returns-in-1
rest_of-returns-in-1 t c =
    let p = variable_left _ c.requires.ordered _ _ (rw c.word-word.ensures at (sym c.tag.ensures ∙ c.in-1.is))
    (rw (c.slot_of.ensures, c.word-word.ensures) at c.holds.ensures) in
    record { result_value = p.0; after = p.1 }

pub rest_of-returns-in-3 : goal.rest_of-returns-in-3
rest_of-returns-in-3 t c =
    rw (c.first-first.ensures, c.word-word.ensures)
    (let p = read_left _ c.requires.ordered _ _ (rw c.word-word.ensures at (sym c.tag.ensures ∙ c.in-3.is)) in
    record { result_value = p.0; after = p.1 })

pub rest_of-returns-in-4 : goal.rest_of-returns-in-4
rest_of-returns-in-4 t c =
    let p = write_left _ c.requires.ordered _ _ _ (rw c.word-word.ensures at (sym c.tag.ensures ∙ c.in-4.is)) (
      rw (c.first-first.ensures, c.write_second.ensures, c.word-word.ensures) at c.rest_of_two.ensures.result_value,
      rw (c.first-first.ensures, c.write_second.ensures, c.word-word.ensures) at c.rest_of_two.ensures.by_index,
    ) in
    record { result_value = p.0; after = p.1 }

pub rest_of-returns-in-5 : goal.rest_of-returns-in-5
rest_of-returns-in-5 t c =
    let p = let_left _ c.requires.ordered _ _ _ (rw c.word-word.ensures at (sym c.tag.ensures ∙ c.in-5.is))
    (rw (c.slot_of-in-5.ensures, c.word-word.ensures) at c.with-inner.ensures) (
      rw (c.let_first-value.ensures, c.let_second-body.ensures, c.word-word.ensures) at c.rest_of_two-in-5.ensures.result_value,
      rw (c.let_first-value.ensures, c.let_second-body.ensures, c.word-word.ensures) at c.rest_of_two-in-5.ensures.by_index,
    ) in
    record { result_value = p.0; after = p.1 }

pub rest_of-returns-else-closed_condition : goal.rest_of-returns-else-closed_condition
rest_of-returns-else-closed_condition t c =
    let p = if_open _ c.requires.ordered _ _ (rw c.word-word.ensures at (sym c.tag.ensures ∙ c.in-6.is))
    (rw (c.first-first.ensures, c.word-word.ensures) at (sym c.closed_condition.ensures ∙ c.if-closed_condition.false)) in
    record { result_value = p.0; after = p.1 }

pub rest_of-returns-else-closed_condition-2 : goal.rest_of-returns-else-closed_condition-2
rest_of-returns-else-closed_condition-2 t c =
    let p = while_open _ c.requires.ordered _ _ (rw c.word-word.ensures at (sym c.tag.ensures ∙ c.in-7.is))
    (rw (c.first-first.ensures, c.word-word.ensures) at (sym c.closed_condition-in-7.ensures ∙ c.if-closed_condition-2.false)) in
    record { result_value = p.0; after = p.1 }

pub rest_of-returns-in-8 : goal.rest_of-returns-in-8
rest_of-returns-in-8 t c =
    let p = call_left _ c.requires.ordered _ _ (rw c.word-word.ensures at (sym c.tag.ensures ∙ c.in-8.is))
    (rw (c.list_of.ensures, c.word-word.ensures) at c.closed_list.ensures) in
    record { result_value = p.0; after = p.1 }

pub rest_of-returns-in-9 : goal.rest_of-returns-in-9
rest_of-returns-in-9 t c =
    rw (c.first-first.ensures, c.word-word.ensures)
    (let p = fork_left _ c.requires.ordered _ _ (rw c.word-word.ensures at (sym c.tag.ensures ∙ c.in-9.is)) in
    record { result_value = p.0; after = p.1 })

pub rest_of-returns-in-10 : goal.rest_of-returns-in-10
rest_of-returns-in-10 t c =
    rw (c.first-first.ensures, c.word-word.ensures)
    (let p = join_left _ c.requires.ordered _ _ (rw c.word-word.ensures at (sym c.tag.ensures ∙ c.in-10.is)) in
    record { result_value = p.0; after = p.1 })

pub rest_of-returns-in-11 : goal.rest_of-returns-in-11
rest_of-returns-in-11 t c =
    let p = synch_left _ c.requires.ordered _ _ _ (rw c.word-word.ensures at (sym c.tag.ensures ∙ c.in-11.is)) (
      rw (c.first-first.ensures, c.second-second.ensures, c.word-word.ensures) at c.rest_of_two-in-11.ensures.result_value,
      rw (c.first-first.ensures, c.second-second.ensures, c.word-word.ensures) at c.rest_of_two-in-11.ensures.by_index,
    ) in
    record { result_value = p.0; after = p.1 }

pub rest_of-returns-in-18 : goal.rest_of-returns-in-18
rest_of-returns-in-18 t c =
    rw (c.first-first.ensures, c.word-word.ensures)
    (let p = wait_left _ c.requires.ordered _ _ (rw c.word-word.ensures at (sym c.tag.ensures ∙ c.in-18.is)) in
    record { result_value = p.0; after = p.1 })

pub rest_of-returns-in-19 : goal.rest_of-returns-in-19
rest_of-returns-in-19 t c =
    rw (c.first-first.ensures, c.word-word.ensures)
    (let p = notify_left _ c.requires.ordered _ _ (rw c.word-word.ensures at (sym c.tag.ensures ∙ c.in-19.is)) in
    record { result_value = p.0; after = p.1 })

pub rest_of-returns-in-20 : goal.rest_of-returns-in-20
rest_of-returns-in-20 t c =
    rw (c.first-first.ensures, c.word-word.ensures)
    (let p = notify_all_left _ c.requires.ordered _ _ (rw c.word-word.ensures at (sym c.tag.ensures ∙ c.in-20.is)) in
    record { result_value = p.0; after = p.1 })

pub rest_of-returns-in_default : goal.rest_of-returns-in_default
rest_of-returns-in_default t c =
    let p = nothing_left _ c.requires.ordered _ _
    (rw c.word-word.ensures at
    (subst (λ (x : ℕ). NoneOf x (20 ∷ 19 ∷ 18 ∷ 11 ∷ 10 ∷ 9 ∷ 8 ∷ 7 ∷ 6 ∷ 5 ∷ 4 ∷ 3 ∷ 1 ∷ [])) c.tag.ensures c.in_default.in_default-own.rest)) in
    record { result_value = p.0; after = p.1 }

-- ---- `rest_of_two`: the second operand is seen here if it has no children, else the first.

pub rest_of_two-closed_leaf-requires : goal.rest_of_two-closed_leaf-requires
rest_of_two-closed_leaf-requires t c = subst (λ (k : ℕ). k < 3) c.tag.ensures c.if-tag-lt-READ.true

pub rest_of_two-returns-then-closed_leaf : goal.rest_of_two-returns-then-closed_leaf
rest_of_two-returns-then-closed_leaf t c =
    let p = leaf_closed _ c.requires.ordered _ _ _ _ (rw c.word-word.ensures at (subst (λ (k : ℕ). k < 3) c.tag.ensures c.if-tag-lt-READ.true))
    (rw c.word-word.ensures at c.closed_leaf.ensures) c.requires.first_bound.0 c.if-closed_leaf.true in
    record { result_value = p.0; by_index = p.1 }

pub rest_of_two-returns-then-tag-lt-READ : goal.rest_of_two-returns-then-tag-lt-READ
rest_of_two-returns-then-tag-lt-READ t c =
    let p = leaf_open _ c.requires.ordered _ _ _ _
    (rw c.word-word.ensures at (subst (λ (k : ℕ). k < 3) c.tag.ensures c.if-tag-lt-READ.true))
    (rw c.word-word.ensures at c.closed_leaf.ensures)
    c.if-closed_leaf.false in
    record { result_value = p.0; by_index = p.1 }

pub rest_of_two-closed_expression-requires : goal.rest_of_two-closed_expression-requires
rest_of_two-closed_expression-requires t c = (just t c.args.first c.decreases, (c.requires.ordered, c.requires.first_bound.0))

pub rest_of_two-returns-then-closed_expression : goal.rest_of_two-returns-then-closed_expression
rest_of_two-returns-then-closed_expression t c =
    let p = expressions_lemmas.first_closed _ c.requires.ordered _ _ _ _ c.requires.first_bound.1
    (sym c.closed_expression.ensures ∙ c.if-closed_expression.true) in
    record { result_value = p.0; by_index = p.1 }

pub rest_of_two-returns : goal.rest_of_two-returns
rest_of_two-returns t c =
    let p = expressions_lemmas.first_open _ c.requires.ordered _ _ _ _ (sym c.closed_expression.ensures
    ∙ c.if-closed_expression.false) in
    record { result_value = p.0; by_index = p.1 }
