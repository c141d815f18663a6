use Prim.Native.Nat.{ℕ, ◌≤◌, ◌<◌}
use native.Mathlib.Omega.{arith}
use mathlib.Core.Path.{◌≡◌}
use Rattle.canonical.proofs.Procedures.{in_order, few, sized, at_start, kept, at_end, root_inside, number_inside, parameters_small, room, next}
use Rattle.plan_writer.proofs.Stores.{two_keeps}
use Rattle.canonical.proofs.write_trees.Goals as goal

-- by the plan's own count
below : {p c m : ℕ} → p < c → c ≡ m → p < m
below h e = rw (← e) h

past : {p c m : ℕ} → c ≤ p → c ≡ m → m ≤ p
past h e = rw (← e) h

pub overflow_mul-base : goal.overflow_mul-base
overflow_mul-base c = let e = c.requires.count_value in let q = few _ _ c.requires.ready in omega arith

pub overflow_add-base : goal.overflow_add-base
overflow_add-base c = let e = c.requires.count_value in let q = few _ _ c.requires.ready in omega arith

pub loop-procedure-init : goal.loop-procedure-init
loop-procedure-init c = at_start _ _ c.requires.ready

pub parameters-parameters-requires : goal.parameters-parameters-requires
parameters-parameters-requires c =
    let q = few _ _ c.requires.ready in
    (omega (arith, c.requires.count_value), omega (arith, c.requires.count_value, sized _ _ c.requires.ready))

pub overflow_mul-procedure : goal.overflow_mul-procedure
overflow_mul-procedure c = let q = few _ _ c.requires.ready in
    omega (arith, c.requires.count_value)

pub overflow_add-procedure : goal.overflow_add-procedure
overflow_add-procedure c = let q = few _ _ c.requires.ready in
    omega (arith, c.requires.count_value)

pub put_procedure-requires : goal.put_procedure-requires
put_procedure-requires c =
    let l = c.loop-procedure in
    let h = below c.loop-procedure-test.true c.requires.count_value in record { at_in_bounds = omega (arith, few _ _ c.requires.ready, sized _ _ c.requires.ready, c.requires.ready.long, kept _ _ c.requires.ready l.invariant); parameters_bound = (rw c.parameters-parameters.ensures (parameters_small _ _ c.requires.ready l.invariant h), omega (arith, number_inside _ _ c.requires.ready l.invariant h)) }

pub root-root-requires : goal.root-root-requires
root-root-requires c =
    let q = few _ _ c.requires.ready in
    (omega (arith, c.requires.count_value), omega (arith, c.requires.count_value, sized _ _ c.requires.ready))

pub write_expression-number-requires : goal.write_expression-number-requires
write_expression-number-requires c =
    let l = c.loop-procedure in
    let h = below c.loop-procedure-test.true c.requires.count_value in rw (c.root-root.ensures, c.requires.count_value) (record { ordered = (in_order _ _ c.requires.ready, root_inside _ _ c.requires.ready l.invariant h); room = room _ _ c.requires.ready l.invariant h (two_keeps _ _ _ c.put_procedure.ensures) })

pub loop-procedure-preserved : goal.loop-procedure-preserved
loop-procedure-preserved c =
    let l = c.loop-procedure in
    let h = below c.loop-procedure-test.true c.requires.count_value in
    next _ _ c.requires.ready l.invariant h
    (rw c.parameters-parameters.ensures at
    c.put_procedure.ensures)
    (rw (c.root-root.ensures, c.requires.count_value) at c.write_expression-number.ensures)

pub shape_of-area : goal.shape_of-area
shape_of-area c = kept _ _ c.requires.ready c.loop-procedure.invariant

pub returns : goal.returns
returns c = at_end _ _ c.requires.ready c.loop-procedure.invariant (past c.loop-procedure-test.false c.requires.count_value)
