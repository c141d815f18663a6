-- `ruqzhemil::ruqzhemil_preview` meets its contract: the number and the bytes of what `preview::preview` answers. Assumes nothing.
use Rattle.ruqzhemil.proofs.Previewed.{small_previewed}
use Rattle.abi_preview.specs.Bytes.{preview_number, out_after}
use mathlib.Core.Path.{ap, ◌∙◌}
use borrow.Author.Rules.{rules}
use Rattle.ruqzhemil.proofs.ruqzhemil_preview.Goals as goal

pub write-requires : goal.write-requires
write-requires c = let e = c.preview-previewed.ensures in (rw e.answer (small_previewed _ _ _), e.logged)

pub returns : goal.returns
returns c =
    let a = c.args in
    let w = c.write.ensures in
    let e = c.preview-previewed.ensures.answer in record { answer = w.number ∙ ap preview_number e; bytes = w.bytes ∙ ap (out_after a.out.now) e }
