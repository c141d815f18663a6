use Prim.Native.Nat.{suc, ℕ, ◌*◌, ◌+◌, ◌-◌, ◌<◌, ◌≤◌}
use Rattle.format.proofs.Ranges.{NoneOf}
use Rattle.plan_tree_writer.proofs.ByTag.{and_at, call_at, end_at, equal_at, if_at, leaf_at, list_at, low_leaf, not_at, one_at, truth_at, two_at, while_at}
use Rattle.plan_tree_writer.proofs.Keys.{found, missed, pair_tag, single_tag}
use Rattle.plan_tree_writer.proofs.Rooms.{one_room, one_small, own_number, put_keeps, put_room, three_first, three_second, three_small, tree_keeps}
use Rattle.plan_tree_writer.proofs.Rooms.{two_first, two_second, two_small}
use Rattle.plan_tree_writer.proofs.Steps.{leaf_going, one_done, one_going, three_going, two_done, two_going}
use Rattle.plan_tree_writer.proofs.Turns.{done, on, start, still_room}
use Rattle.plan_tree_writer.specs.Inner.Left.{expressions_in, pairs, singles}
use mathlib.Core.List.{[], ◌∷◌}
use mathlib.Core.Path.{refl, subst, sym, ◌∙◌, ◌≡◌}
use native.Mathlib.Numerals.{add-one}
use native.Mathlib.Omega.{arith}
use Rattle.plan_tree_writer.proofs.+tree_writer.Goals as goal

-- ---- the span of terms falls

-- at a later term
later : (span t x : ℕ) → 3 * (1024 - t) ≡ span → t < x → x < 1024 → 3 * (1024 - x) + 2 < span
later span t x e h k = omega arith

-- at the term of a turn, where the walk began one or two above
turn : (above span from t : ℕ) → 3 * (1024 - from) + suc above ≡ span → from ≤ t → 3 * (1024 - t) < span
turn above span from t e h = omega arith

-- ---- `begin_condition`: a condition by its tag, but for its last child.

pub begin_condition-overflow_mul-place : goal.begin_condition-overflow_mul-place
begin_condition-overflow_mul-place t c =
    let r = own_number c.requires.room in
    omega arith

pub begin_condition-overflow_add-place : goal.begin_condition-overflow_add-place
begin_condition-overflow_add-place t c =
    let r = put_room c.requires.room in
    omega arith

pub begin_condition-overflow_add-next : goal.begin_condition-overflow_add-next
begin_condition-overflow_add-next t c =
    let r = own_number c.requires.room in
    omega arith

pub begin_condition-one-requires : goal.begin_condition-one-requires
begin_condition-one-requires t c =
    let w = c.word-word.ensures in
    let e = rw w at (sym c.tag.ensures ∙ c.in-13.is) in
    let a = not_at _ c.requires.ordered.0 _ e in
    rw w (omega arith, one_small c.requires.room a.one_shape)

pub begin_condition-put-requires : goal.begin_condition-put-requires
begin_condition-put-requires t c = put_room c.requires.room

pub begin_condition-write_condition-second-requires : goal.begin_condition-write_condition-second-requires
begin_condition-write_condition-second-requires t c =
    let w = c.word-word.ensures in
    let a = and_at _ c.requires.ordered.0 _ (rw w at (sym c.tag.ensures ∙ c.in-14.is)) in
    rw (c.first-first.ensures, w)
    (later _ _ _ c.decreases a.first_later a.first_inside, ((c.requires.ordered.0, a.first_inside), two_first c.requires.room a.two_shape))

pub begin_condition-two-requires : goal.begin_condition-two-requires
begin_condition-two-requires t c =
    let w = c.word-word.ensures in
    let e = rw w at (sym c.tag.ensures ∙ c.in-14.is) in
    let a = and_at _ c.requires.ordered.0 _ e in
    let f = rw (c.first-first.ensures, w) at c.write_condition-second.ensures in
    rw w (omega arith, (two_small c.requires.room a.two_shape f).0, (two_small c.requires.room a.two_shape f).1)

pub begin_condition-put-requires-in-14 : goal.begin_condition-put-requires-in-14
begin_condition-put-requires-in-14 t c =
    let k = tree_keeps c.write_condition-second.ensures in
    let r = put_room c.requires.room in
    omega arith

pub begin_condition-write_child-second-requires : goal.begin_condition-write_child-second-requires
begin_condition-write_child-second-requires t c =
    let w = c.word-word.ensures in
    let a = equal_at _ c.requires.ordered.0 _ (rw w at (sym c.tag.ensures ∙ c.in-15.is)) in
    rw (c.first-first.ensures, w)
    (later _ _ _ c.decreases a.first_later a.first_inside, ((c.requires.ordered.0, a.first_inside), two_first c.requires.room a.two_shape))

pub begin_condition-two-requires-in-15 : goal.begin_condition-two-requires-in-15
begin_condition-two-requires-in-15 t c =
    let w = c.word-word.ensures in
    let e = rw w at (sym c.tag.ensures ∙ c.in-15.is) in
    let a = equal_at _ c.requires.ordered.0 _ e in
    let f = rw (c.first-first.ensures, w) at c.write_child-second.ensures in
    rw w (omega arith, (two_small c.requires.room a.two_shape f).0, (two_small c.requires.room a.two_shape f).1)

pub begin_condition-put-requires-in-15 : goal.begin_condition-put-requires-in-15
begin_condition-put-requires-in-15 t c =
    let k = tree_keeps c.write_child-second.ensures in
    let r = put_room c.requires.room in
    omega arith

pub begin_condition-write_child-end-requires : goal.begin_condition-write_child-end-requires
begin_condition-write_child-end-requires t c =
    let w = c.word-word.ensures in
    let a = equal_at _ c.requires.ordered.0 _ (rw w at (sym c.tag.ensures ∙ c.in-15.is)) in
    let f = rw (c.first-first.ensures, w) at c.write_child-second.ensures in
    rw (c.second-in-15.ensures, w) (
      later _ _ _ c.decreases a.second_later a.second_inside,
      ((c.requires.ordered.0, a.second_inside), two_second c.requires.room a.two_shape f (put_keeps _ _ _ c.put-in-15.ensures)),
    )

pub begin_condition-put-requires-in_default : goal.begin_condition-put-requires-in_default
begin_condition-put-requires-in_default t c = put_room c.requires.room

pub begin_condition-returns-in-13 : goal.begin_condition-returns-in-13
begin_condition-returns-in-13 t c =
    let w = c.word-word.ensures in
    let a = not_at _ c.requires.ordered.0 _ (rw w at (sym c.tag.ensures ∙ c.in-13.is)) in
    rw (c.first-first.ensures, w) (one_going _ _ _ _ _ (add-one _) _ _ a.one_shape a.one_later a.one_inside (rw (c.one.ensures, w) at c.put.ensures))

pub begin_condition-returns-in-14 : goal.begin_condition-returns-in-14
begin_condition-returns-in-14 t c =
    let w = c.word-word.ensures in
    let a = and_at _ c.requires.ordered.0 _ (rw w at (sym c.tag.ensures ∙ c.in-14.is)) in
    let f = rw (c.first-first.ensures, w) at c.write_condition-second.ensures in
    rw (c.second.ensures, w)
    (two_going _ _ _ _ _ (add-one _) _ _ f _ a.two_shape a.second_later a.second_inside (rw (c.two.ensures, w) at c.put-in-14.ensures))

pub begin_condition-returns-in-15 : goal.begin_condition-returns-in-15
begin_condition-returns-in-15 t c =
    let w = c.word-word.ensures in
    let a = equal_at _ c.requires.ordered.0 _ (rw w at (sym c.tag.ensures ∙ c.in-15.is)) in
    let f = rw (c.first-first.ensures, w) at c.write_child-second.ensures in
    let g = rw (c.second-in-15.ensures, w) at c.write_child-end.ensures in
    two_done _ _ _ _ _ (add-one _) _ _ f _ a.two_shape (rw (c.two-in-15.ensures, w) at c.put-in-15.ensures) g

pub begin_condition-returns-in_default : goal.begin_condition-returns-in_default
begin_condition-returns-in_default t c =
    let w = c.word-word.ensures in
    leaf_going _ _ _ _ _ (add-one _) _
    (truth_at _ c.requires.ordered.0 _ (subst (λ (x : ℕ). NoneOf x (15 ∷ 14 ∷ 13 ∷ [])) (rw w at c.tag.ensures) c.in_default.in_default-own.rest))
    c.put-in_default.ensures

-- ---- `begin_expression`: an expression by its tag, but for its last child.

pub begin_expression-overflow_mul-place : goal.begin_expression-overflow_mul-place
begin_expression-overflow_mul-place t c =
    let r = own_number c.requires.room in
    omega arith

pub begin_expression-overflow_add-place : goal.begin_expression-overflow_add-place
begin_expression-overflow_add-place t c =
    let r = put_room c.requires.room in
    omega arith

pub begin_expression-overflow_add-next : goal.begin_expression-overflow_add-next
begin_expression-overflow_add-next t c =
    let r = own_number c.requires.room in
    omega arith

pub begin_expression-one-requires : goal.begin_expression-one-requires
begin_expression-one-requires t c =
    let w = c.word-word.ensures in
    let k = found singles _ _ (rw w at c.tag-tag.ensures) c.has_one.ensures c.if-has_one.true in
    rw w (single_tag _ k, one_small c.requires.room (one_at _ c.requires.ordered.0 _ k).one_shape)

pub begin_expression-put-requires : goal.begin_expression-put-requires
begin_expression-put-requires t c = put_room c.requires.room

pub begin_expression-returns-then-has_one : goal.begin_expression-returns-then-has_one
begin_expression-returns-then-has_one t c =
    let w = c.word-word.ensures in
    let a = one_at _ c.requires.ordered.0 _ (found singles _ _ (rw w at c.tag-tag.ensures) c.has_one.ensures c.if-has_one.true) in
    rw (c.first.ensures, w) (one_going _ _ _ _ _ (add-one _) _ _ a.one_shape a.one_later a.one_inside (rw (c.one.ensures, w) at c.put.ensures))

pub begin_expression-write_child-second-requires : goal.begin_expression-write_child-second-requires
begin_expression-write_child-second-requires t c =
    let w = c.word-word.ensures in
    let a = two_at _ c.requires.ordered.0 _ (found pairs _ _ (rw w at c.tag-tag.ensures) c.has_two.ensures c.if-has_two.true) in
    rw (c.pair_first-child.ensures, w)
    (later _ _ _ c.decreases a.first_later a.first_inside, ((c.requires.ordered.0, a.first_inside), two_first c.requires.room a.two_shape))

pub begin_expression-two-requires : goal.begin_expression-two-requires
begin_expression-two-requires t c =
    let w = c.word-word.ensures in
    let k = found pairs _ _ (rw w at c.tag-tag.ensures) c.has_two.ensures c.if-has_two.true in
    let a = two_at _ c.requires.ordered.0 _ k in
    let f = rw (c.pair_first-child.ensures, w) at c.write_child-second.ensures in
    rw w (pair_tag _ k, (two_small c.requires.room a.two_shape f).0, (two_small c.requires.room a.two_shape f).1)

pub begin_expression-put-requires-then-has_two : goal.begin_expression-put-requires-then-has_two
begin_expression-put-requires-then-has_two t c =
    let k = tree_keeps c.write_child-second.ensures in
    let r = put_room c.requires.room in
    omega arith

pub begin_expression-returns-then-has_two : goal.begin_expression-returns-then-has_two
begin_expression-returns-then-has_two t c =
    let w = c.word-word.ensures in
    let a = two_at _ c.requires.ordered.0 _ (found pairs _ _ (rw w at c.tag-tag.ensures) c.has_two.ensures c.if-has_two.true) in
    let f = rw (c.pair_first-child.ensures, w) at c.write_child-second.ensures in
    rw (c.pair_second-last.ensures, w)
    (two_going _ _ _ _ _ (add-one _) _ _ f _ a.two_shape a.second_later a.second_inside (rw (c.two.ensures, w) at c.put-then-has_two.ensures))

pub begin_expression-write_condition-second-requires : goal.begin_expression-write_condition-second-requires
begin_expression-write_condition-second-requires t c =
    let w = c.word-word.ensures in
    let a = if_at _ c.requires.ordered.0 _ (rw w at (sym c.tag-tag.ensures ∙ c.in-6.is)) in
    rw (c.first-in-6.ensures, w)
    (later _ _ _ c.decreases a.laters.0 a.insides.0, ((c.requires.ordered.0, a.insides.0), three_first c.requires.room a.three_shape))

pub begin_expression-write_child-third-requires : goal.begin_expression-write_child-third-requires
begin_expression-write_child-third-requires t c =
    let w = c.word-word.ensures in
    let a = if_at _ c.requires.ordered.0 _ (rw w at (sym c.tag-tag.ensures ∙ c.in-6.is)) in
    let f = rw (c.first-in-6.ensures, w) at c.write_condition-second.ensures in
    rw (c.second.ensures, w)
    (later _ _ _ c.decreases a.laters.1 a.insides.1, ((c.requires.ordered.0, a.insides.1), three_second c.requires.room a.three_shape f))

pub begin_expression-three-requires : goal.begin_expression-three-requires
begin_expression-three-requires t c =
    let w = c.word-word.ensures in
    let a = if_at _ c.requires.ordered.0 _ (rw w at (sym c.tag-tag.ensures ∙ c.in-6.is)) in
    let f = rw (c.first-in-6.ensures, w) at c.write_condition-second.ensures in
    let g = rw (c.second.ensures, w) at c.write_child-third.ensures in
    three_small c.requires.room a.three_shape f g

pub begin_expression-put-requires-in-6 : goal.begin_expression-put-requires-in-6
begin_expression-put-requires-in-6 t c =
    let k = tree_keeps c.write_condition-second.ensures in
    let i = tree_keeps c.write_child-third.ensures in
    let r = put_room c.requires.room in
    omega arith

pub begin_expression-write_condition-body-requires : goal.begin_expression-write_condition-body-requires
begin_expression-write_condition-body-requires t c =
    let w = c.word-word.ensures in
    let a = while_at _ c.requires.ordered.0 _ (rw w at (sym c.tag-tag.ensures ∙ c.in-7.is)) in
    rw (c.first-in-7.ensures, w)
    (later _ _ _ c.decreases a.first_later a.first_inside, ((c.requires.ordered.0, a.first_inside), two_first c.requires.room a.two_shape))

pub begin_expression-two-requires-in-7 : goal.begin_expression-two-requires-in-7
begin_expression-two-requires-in-7 t c =
    let w = c.word-word.ensures in
    let e = rw w at (sym c.tag-tag.ensures ∙ c.in-7.is) in
    let a = while_at _ c.requires.ordered.0 _ e in
    let f = rw (c.first-in-7.ensures, w) at c.write_condition-body.ensures in
    rw w (omega arith, (two_small c.requires.room a.two_shape f).0, (two_small c.requires.room a.two_shape f).1)

pub begin_expression-put-requires-in-7 : goal.begin_expression-put-requires-in-7
begin_expression-put-requires-in-7 t c =
    let k = tree_keeps c.write_condition-body.ensures in
    let r = put_room c.requires.room in
    omega arith

pub begin_expression-call-requires : goal.begin_expression-call-requires
begin_expression-call-requires t c =
    let w = c.word-word.ensures in
    one_small c.requires.room (call_at _ c.requires.ordered.0 _ (rw w at (sym c.tag-tag.ensures ∙ c.in-8.is))).one_shape

pub begin_expression-put-requires-in-8 : goal.begin_expression-put-requires-in-8
begin_expression-put-requires-in-8 t c = put_room c.requires.room

pub begin_expression-write_list-end-requires : goal.begin_expression-write_list-end-requires
begin_expression-write_list-end-requires t c =
    let w = c.word-word.ensures in
    let a = call_at _ c.requires.ordered.0 _ (rw w at (sym c.tag-tag.ensures ∙ c.in-8.is)) in
    rw (c.list_of.ensures, w) (
      later _ _ _ c.decreases a.one_later a.one_inside,
      ((c.requires.ordered.0, a.one_inside), one_room c.requires.room a.one_shape (put_keeps _ _ _ c.put-in-8.ensures)),
    )

pub begin_expression-put-requires-in_default : goal.begin_expression-put-requires-in_default
begin_expression-put-requires-in_default t c = put_room c.requires.room

pub begin_expression-returns-in-6 : goal.begin_expression-returns-in-6
begin_expression-returns-in-6 t c =
    let w = c.word-word.ensures in
    let a = if_at _ c.requires.ordered.0 _ (rw w at (sym c.tag-tag.ensures ∙ c.in-6.is)) in
    let f = rw (c.first-in-6.ensures, w) at c.write_condition-second.ensures in
    let g = rw (c.second.ensures, w) at c.write_child-third.ensures in
    rw (c.third.ensures, w)
    (three_going _ _ _ _ _ (add-one _) _ _ f _ _ a.three_shape a.laters.2 a.insides.2 g (rw c.three.ensures at c.put-in-6.ensures))

pub begin_expression-returns-in-7 : goal.begin_expression-returns-in-7
begin_expression-returns-in-7 t c =
    let w = c.word-word.ensures in
    let a = while_at _ c.requires.ordered.0 _ (rw w at (sym c.tag-tag.ensures ∙ c.in-7.is)) in
    let f = rw (c.first-in-7.ensures, w) at c.write_condition-body.ensures in
    rw (c.second-in-7.ensures, w)
    (two_going _ _ _ _ _ (add-one _) _ _ f _ a.two_shape a.second_later a.second_inside (rw (c.two-in-7.ensures, w) at c.put-in-7.ensures))

pub begin_expression-returns-in-8 : goal.begin_expression-returns-in-8
begin_expression-returns-in-8 t c =
    let w = c.word-word.ensures in
    let a = call_at _ c.requires.ordered.0 _ (rw w at (sym c.tag-tag.ensures ∙ c.in-8.is)) in
    one_done _ _ _ _ _ (add-one _) _ _ a.one_shape (rw (c.call.ensures, w) at c.put-in-8.ensures)
    (rw (c.list_of.ensures, w) at c.write_list-end.ensures)

pub begin_expression-returns-in_default : goal.begin_expression-returns-in_default
begin_expression-returns-in_default t c =
    let w = c.word-word.ensures in
    let tagged = rw w at c.tag-tag.ensures in
    let rest = subst (λ (x : ℕ). NoneOf x (8 ∷ 7 ∷ 6 ∷ [])) tagged c.in_default.in_default-own.rest in
    let l = leaf_at _ c.requires.ordered.0 _ rest (missed pairs _ _ tagged c.has_two.ensures c.if-has_two.false)
    (missed singles _ _ tagged c.has_one.ensures c.if-has_one.false) in
    leaf_going _ _ _ _ _ (add-one _) _ l (rw (c.leaf.ensures, w) at c.put-in_default.ensures)

-- ---- `begin_list`: an argument, or the end of a list.

pub begin_list-overflow_mul-place : goal.begin_list-overflow_mul-place
begin_list-overflow_mul-place t c =
    let r = own_number c.requires.room in
    omega arith

pub begin_list-overflow_add-place : goal.begin_list-overflow_add-place
begin_list-overflow_add-place t c =
    let r = put_room c.requires.room in
    omega arith

pub begin_list-overflow_add-next : goal.begin_list-overflow_add-next
begin_list-overflow_add-next t c =
    let r = own_number c.requires.room in
    omega arith

pub begin_list-put-requires : goal.begin_list-put-requires
begin_list-put-requires t c = put_room c.requires.room

pub begin_list-returns-then-tag-ne-LIST : goal.begin_list-returns-then-tag-ne-LIST
begin_list-returns-then-tag-ne-LIST t c =
    let tagged = rw c.word-word.ensures at c.tag.ensures in
    leaf_going _ _ _ _ _ (add-one _) _ (end_at _ c.requires.ordered.0 _ (λ e. c.if-tag-ne-LIST.true (tagged ∙ e))) c.put.ensures

pub begin_list-write_child-rest-requires : goal.begin_list-write_child-rest-requires
begin_list-write_child-rest-requires t c =
    let w = c.word-word.ensures in
    let a = list_at _ c.requires.ordered.0 _ (rw w at (sym c.tag.ensures ∙ c.if-tag-ne-LIST.false)) in
    rw (c.first.ensures, w)
    (later _ _ _ c.decreases a.first_later a.first_inside, ((c.requires.ordered.0, a.first_inside), two_first c.requires.room a.two_shape))

pub begin_list-two-requires : goal.begin_list-two-requires
begin_list-two-requires t c =
    let w = c.word-word.ensures in
    let e = rw w at (sym c.tag.ensures ∙ c.if-tag-ne-LIST.false) in
    let a = list_at _ c.requires.ordered.0 _ e in
    let f = rw (c.first.ensures, w) at c.write_child-rest.ensures in
    rw w (omega arith, (two_small c.requires.room a.two_shape f).0, (two_small c.requires.room a.two_shape f).1)

pub begin_list-put-requires-2 : goal.begin_list-put-requires-2
begin_list-put-requires-2 t c =
    let k = tree_keeps c.write_child-rest.ensures in
    let r = put_room c.requires.room in
    omega arith

pub begin_list-returns : goal.begin_list-returns
begin_list-returns t c =
    let w = c.word-word.ensures in
    let a = list_at _ c.requires.ordered.0 _ (rw w at (sym c.tag.ensures ∙ c.if-tag-ne-LIST.false)) in
    let f = rw (c.first.ensures, w) at c.write_child-rest.ensures in
    rw (c.second.ensures, w)
    (two_going _ _ _ _ _ (add-one _) _ _ f _ a.two_shape a.second_later a.second_inside (rw (c.two.ensures, w) at c.put-2.ensures))

-- ---- `write_child`: an expression without children in place, any other by the walk.

pub write_child-overflow_mul-number : goal.write_child-overflow_mul-number
write_child-overflow_mul-number t c =
    let r = own_number c.requires.room in
    omega arith

pub write_child-overflow_add-base : goal.write_child-overflow_add-base
write_child-overflow_add-base t c =
    let r = put_room c.requires.room in
    omega arith

pub write_child-put-requires : goal.write_child-put-requires
write_child-put-requires t c = put_room c.requires.room

pub write_child-overflow_add-result : goal.write_child-overflow_add-result
write_child-overflow_add-result t c =
    let r = own_number c.requires.room in
    omega arith

pub write_child-returns-then-tag-lt-READ : goal.write_child-returns-then-tag-lt-READ
write_child-returns-then-tag-lt-READ t c =
    let w = c.word-word.ensures in
    let low = rw (c.tag.ensures, w) at c.if-tag-lt-READ.true in
    done (expressions_in _) _ _ _ _ (start _ _ _ _ _ c.requires.ordered.1)
    (leaf_going _ _ _ _ _ (add-one _) _ (low_leaf _ c.requires.ordered.0 _ low) (rw (c.leaf.ensures, w) at c.put.ensures)) _ refl

pub write_child-write_expression-requires : goal.write_child-write_expression-requires
write_child-write_expression-requires t c = (omega (arith, c.decreases), (c.requires.ordered, c.requires.room))

pub write_child-returns : goal.write_child-returns
write_child-returns t c = c.write_expression.ensures

-- ---- `write_condition`: each turn of the loop writes a term, and goes on with its last child.

pub write_condition-loop-next-init : goal.write_condition-loop-next-init
write_condition-loop-next-init t c = start _ _ _ _ _ c.requires.ordered.1

pub write_condition-begin_condition-left-requires : goal.write_condition-begin_condition-left-requires
write_condition-begin_condition-left-requires t c =
    let l = c.loop-next in
    (turn 1 _ _ _ c.decreases l.invariant.later, ((c.requires.ordered.0, l.invariant.inside), still_room _ _ _ _ _ l.invariant c.requires.room))

pub write_condition-returns-in-Done : goal.write_condition-returns-in-Done
write_condition-returns-in-Done t c = done _ _ _ _ _ c.loop-next.invariant c.begin_condition-left.ensures _ c.in-Done.is

pub write_condition-loop-next-smaller : goal.write_condition-loop-next-smaller
write_condition-loop-next-smaller t c = (on _ _ _ _ _ c.loop-next.invariant c.begin_condition-left.ensures _ _ c.in-At.is).0

pub write_condition-loop-next-preserved : goal.write_condition-loop-next-preserved
write_condition-loop-next-preserved t c = (on _ _ _ _ _ c.loop-next.invariant c.begin_condition-left.ensures _ _ c.in-At.is).1

-- ---- `write_expression`: each turn of the loop writes a term, and goes on with its last child.

pub write_expression-loop-next-init : goal.write_expression-loop-next-init
write_expression-loop-next-init t c = start _ _ _ _ _ c.requires.ordered.1

pub write_expression-begin_expression-left-requires : goal.write_expression-begin_expression-left-requires
write_expression-begin_expression-left-requires t c =
    let l = c.loop-next in
    (turn 0 _ _ _ c.decreases l.invariant.later, ((c.requires.ordered.0, l.invariant.inside), still_room _ _ _ _ _ l.invariant c.requires.room))

pub write_expression-returns-in-Done : goal.write_expression-returns-in-Done
write_expression-returns-in-Done t c = done _ _ _ _ _ c.loop-next.invariant c.begin_expression-left.ensures _ c.in-Done.is

pub write_expression-loop-next-smaller : goal.write_expression-loop-next-smaller
write_expression-loop-next-smaller t c = (on _ _ _ _ _ c.loop-next.invariant c.begin_expression-left.ensures _ _ c.in-At.is).0

pub write_expression-loop-next-preserved : goal.write_expression-loop-next-preserved
write_expression-loop-next-preserved t c = (on _ _ _ _ _ c.loop-next.invariant c.begin_expression-left.ensures _ _ c.in-At.is).1

-- ---- `write_list`: each turn of the loop writes a term, and goes on with its last child.

pub write_list-loop-next-init : goal.write_list-loop-next-init
write_list-loop-next-init t c = start _ _ _ _ _ c.requires.ordered.1

pub write_list-begin_list-left-requires : goal.write_list-begin_list-left-requires
write_list-begin_list-left-requires t c =
    let l = c.loop-next in
    (turn 1 _ _ _ c.decreases l.invariant.later, ((c.requires.ordered.0, l.invariant.inside), still_room _ _ _ _ _ l.invariant c.requires.room))

pub write_list-returns-in-Done : goal.write_list-returns-in-Done
write_list-returns-in-Done t c = done _ _ _ _ _ c.loop-next.invariant c.begin_list-left.ensures _ c.in-Done.is

pub write_list-loop-next-smaller : goal.write_list-loop-next-smaller
write_list-loop-next-smaller t c = (on _ _ _ _ _ c.loop-next.invariant c.begin_list-left.ensures _ _ c.in-At.is).0

pub write_list-loop-next-preserved : goal.write_list-loop-next-preserved
write_list-loop-next-preserved t c = (on _ _ _ _ _ c.loop-next.invariant c.begin_list-left.ensures _ _ c.in-At.is).1
