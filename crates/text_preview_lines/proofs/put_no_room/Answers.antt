-- `text_preview_lines::put_no_room` meets its contract. Assumes nothing.
use native.Mathlib.Omega.{arith}
use Rattle.play.specs.Answer.{room_of}
use Rattle.text.specs.Text.{ascii}
use Rattle.text.proofs.Added.{added_more, added_as}
use Rattle.text_phrases.specs.Phrase.{phrase}
use Rattle.text_phrase_pairs.proofs.Digits.{wide_digits}
use Rattle.text_preview_lines.proofs.LineParts.{no_room_parts}
use Rattle.text_preview_lines.proofs.put_no_room.Goals as goal

pub put_phrase-at-requires : goal.put_phrase-at-requires
put_phrase-at-requires c = omega (arith, wide_digits c.args.pick (omega arith))

pub put_word-at-requires : goal.put_word-at-requires
put_word-at-requires c = omega (arith, wide_digits c.args.pick (omega arith))

pub put_room-at-requires : goal.put_room-at-requires
put_room-at-requires c =
    omega
    (arith, wide_digits c.args.pick (omega arith))

pub put_byte-requires : goal.put_byte-requires
put_byte-requires c =
    omega (
      arith,
      c.put_room-at.ensures.within,
      wide_digits
          c.args.pick (omega arith),
    )

pub returns : goal.returns
unfolding phrase ascii
returns c =
    added_as
    (no_room_parts
    c.args.pick
    (room_of
    c.args.room))
    (added_more
    (added_more
    (added_more
    c.put_phrase-at.ensures c.put_word-at.ensures)
    c.put_room-at.ensures.wrote) c.put_byte.ensures)
