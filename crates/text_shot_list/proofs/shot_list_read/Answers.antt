-- `text_shot_list::shot_list_read` meets its contract. Assumes nothing.
use native.Mathlib.Omega.{arith}
use mathlib.Core.Path.{sym, ◌∙◌}
use lib.Seq.{take_all, length-take-le}
use Rattle.text_shot_list.proofs.FirstBytes.{same_text}
use Rattle.text_shot_list.proofs.shot_list_read.Goals as goal

pub slice_bounds-shot_list-end : goal.slice_bounds-shot_list-end
slice_bounds-shot_list-end c = sym (length-take-le _ _ (omega arith))

pub returns-then-size-bytes : goal.returns-then-size-bytes
returns-then-size-bytes c = λ input q. rw (same_text input q) c.shot_list.ensures

pub returns-else-size-bytes : goal.returns-else-size-bytes
returns-else-size-bytes c = λ input q.
    let a = c.args in
    rw (same_text input (q ∙ take_all a.size a.buffer.now (omega arith))) c.shot_list-else-size-bytes.ensures
