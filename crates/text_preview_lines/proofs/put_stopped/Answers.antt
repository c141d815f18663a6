-- `text_preview_lines::put_stopped` meets its contract. Assumes nothing.
use native.Mathlib.Omega.{arith}
use Rattle.play.specs.Answer.{stop_of}
use Rattle.text.specs.Text.{ascii}
use Rattle.text.proofs.Added.{added_more, added_as}
use Rattle.text_preview_lines.proofs.LineParts.{stopped_parts}
use Rattle.text_preview_lines.proofs.put_stopped.Goals as goal

pub put_byte-requires : goal.put_byte-requires
put_byte-requires c = omega (arith, c.put_stop-at.ensures.within)

pub returns : goal.returns
unfolding ascii
returns c =
    added_as
    (stopped_parts 0
    (stop_of c.args.stop))
    (added_more
    (added_more c.put_word-at.ensures
    c.put_stop-at.ensures.wrote) c.put_byte.ensures)
