-- `text_input_parts::cut_short` meets its contract. Assumes nothing.
use native.Mathlib.Omega.{arith}
use mathlib.Core.Path.{sym, ◌∙◌}
use borrow.Author.Tests.{lt-ltb}
use Rattle.text_input_parts.proofs.Parts.{cut_early, cut_long, length_is, cut_by}
use Rattle.text_input_parts.proofs.cut_short.Goals as goal

pub returns-then-input-lt2 : goal.returns-then-input-lt2
returns-then-input-lt2 c = sym (cut_early _ (omega arith))

pub returns-then-length-gt5192 : goal.returns-then-length-gt5192
returns-then-length-gt5192 c =
    let h = c.half-length in
    let n = length_is _ h.result h.ensures.0 in
    lt-ltb _ _ c.if-length-gt5192.true ∙ sym (cut_long _ (omega (arith, n)))

pub returns-else-length-gt5192 : goal.returns-else-length-gt5192
returns-else-length-gt5192 c = let h = c.half-length in cut_by _ h.result h.ensures.0 (omega arith)
