-- `text_input_parts::plan_of` meets its contract. Assumes nothing.
use native.Mathlib.Omega.{arith}
use borrow.Author.Rules.{rules}
use Rattle.text_input_parts.proofs.Parts.{is_whole, length_is, plan_is}
use Rattle.text_input_parts.proofs.plan_of.Goals as goal

pub half-end-requires : goal.half-end-requires
half-end-requires c = omega (arith, is_whole _ c.requires)

pub slice_bounds-result-end : goal.slice_bounds-result-end
slice_bounds-result-end c =
    let h = c.half-end in
    omega (arith, is_whole _ c.requires, length_is _ h.result h.ensures.0)

pub returns : goal.returns
returns c = let h = c.half-end in plan_is _ h.result h.ensures.0
