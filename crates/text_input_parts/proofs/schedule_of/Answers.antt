-- `text_input_parts::schedule_of` meets its contract. Assumes nothing.
use native.Mathlib.Omega.{arith}
use borrow.Author.Rules.{rules}
use Rattle.text_input_parts.proofs.Parts.{is_whole, length_is, schedule_is}
use Rattle.text_input_parts.proofs.schedule_of.Goals as goal

pub half-start-requires : goal.half-start-requires
half-start-requires c = omega (arith, is_whole _ c.requires)

pub slice_bounds-result-count : goal.slice_bounds-result-count
slice_bounds-result-count c =
    let h = c.half-start in
    omega (arith, is_whole _ c.requires, length_is _ h.result h.ensures.0)

pub slice_bounds-result-start : goal.slice_bounds-result-start
slice_bounds-result-start c =
    let h = c.half-start in
    omega (arith, is_whole _ c.requires, length_is _ h.result h.ensures.0)

pub returns : goal.returns
returns c = let h = c.half-start in schedule_is _ h.result h.ensures.0
