-- `log_row_stores::access` meets its contract. Assumes nothing.
use Rattle.log_row_stores.proofs.Accesses.{held_within, kept_within, late_by, kept_in}
use native.Mathlib.Omega.{arith}
use mathlib.Core.Path.{sym}
use Rattle.log_row_stores.proofs.access.Goals as goal

pub offset_bounds-table-held : goal.offset_bounds-table-held
offset_bounds-table-held c = let a = c.args in omega (arith, held_within a.kind a.at _ c.held-held.ensures)

pub slice_copy_out-heard : goal.slice_copy_out-heard
slice_copy_out-heard c = let a = c.args in omega (arith, held_within a.kind a.at _ c.held-held.ensures)

pub lower-requires : goal.lower-requires
lower-requires c = let p = c.requires in record { own_low = p.sound.low _; heard_low = p.sound.low _ }

pub returns-then-lower : goal.returns-then-lower
returns-then-lower c = late_by _ _ _ _ _ _ c.held-held.ensures _ c.lower.ensures (sym c.if-lower.true)

pub keep-requires-2 : goal.keep-requires-2
keep-requires-2 c =
    let a = c.args in
    let p = c.requires in
    let k = c.keep.ensures.stored in
    record { row_in = omega (arith, kept_within a.kind a.at _ c.kept-kept.ensures, k.long); thread_in = p.thread_in; time_in = p.time_in; sound = k.sound }

pub returns : goal.returns
returns c =
    kept_in _ _ _ _ _ _ c.held-held.ensures _
    c.lower.ensures
    (sym c.if-lower.false) c.keep.ensures _
    c.kept-kept.ensures c.keep-2.ensures
