use native.Mathlib.Omega.{arith}
use mathlib.Core.Path.{◌∙◌}
use Rattle.plan_writer.proofs.Stores.{two_keeps, eight_keeps}
use Rattle.plan_writer.proofs.HeldAreas.{at_start, kept, at_end, number_inside, room, next, whole}
use Rattle.plan_writer.proofs.write.Goals as goal

pub put_header-requires : goal.put_header-requires
put_header-requires c = let w = c.requires in record { in_bounds = omega (arith, w.long); version_bound = (w.version_known, w.few_procedures, w.few_terms) }

pub overflow_mul-base : goal.overflow_mul-base
overflow_mul-base c = let q = c.requires.few_procedures in omega arith

pub overflow_add-base : goal.overflow_add-base
overflow_add-base c = let q = c.requires.few_procedures in omega arith

pub loop-procedure-init : goal.loop-procedure-init
loop-procedure-init c = at_start c.requires _

pub offset_bounds-counts-procedure : goal.offset_bounds-counts-procedure
offset_bounds-counts-procedure c = let q = c.requires.few_procedures in omega arith

pub bounds-counts-procedure : goal.bounds-counts-procedure
bounds-counts-procedure c = let q = c.requires.few_procedures in omega arith

pub offset_bounds-roots-procedure : goal.offset_bounds-roots-procedure
offset_bounds-roots-procedure c = let q = c.requires.few_procedures in omega arith

pub bounds-roots-procedure : goal.bounds-roots-procedure
bounds-roots-procedure c = let q = c.requires.few_procedures in omega arith

pub overflow_mul-procedure : goal.overflow_mul-procedure
overflow_mul-procedure c = let q = c.requires.few_procedures in omega arith

pub overflow_add-procedure : goal.overflow_add-procedure
overflow_add-procedure c = let q = c.requires.few_procedures in omega arith

pub put_procedure-requires : goal.put_procedure-requires
put_procedure-requires c =
    let w = c.requires in
    let l = c.loop-procedure in
    let t = c.loop-procedure-test.true in
    let k = eight_keeps _ _ _ c.put_header.ensures in record { at_in_bounds = omega (arith, w.long, kept w l.invariant, k); parameters_bound = (omega (arith, w.few_parameters _ t), omega (arith, number_inside w l.invariant t)) }

pub write_expression-number-requires : goal.write_expression-number-requires
write_expression-number-requires c =
    let w = c.requires in
    let l = c.loop-procedure in
    let t = c.loop-procedure-test.true in
    let k = eight_keeps _ _ _ c.put_header.ensures in record { ordered = (w.ordered, w.root_inside _ t); room = room w l.invariant t k (two_keeps _ _ _ c.put_procedure.ensures) }

pub loop-procedure-preserved : goal.loop-procedure-preserved
loop-procedure-preserved c =
    let w = c.requires in
    let l = c.loop-procedure in
    let t = c.loop-procedure-test.true in
    next w l.invariant t c.put_procedure.ensures c.write_expression-number.ensures

pub shape_of-area : goal.shape_of-area
shape_of-area c =
    let k = eight_keeps _ _ _ c.put_header.ensures in
    kept c.requires c.loop-procedure.invariant ∙ k

pub returns : goal.returns
returns c =
    let w = c.requires in
    whole w c.put_header.ensures (at_end w c.loop-procedure.invariant c.loop-procedure-test.false)
