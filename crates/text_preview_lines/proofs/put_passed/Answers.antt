-- `text_preview_lines::put_passed` meets its contract. Assumes nothing.
use native.Mathlib.Omega.{arith}
use Rattle.play.specs.Answer.{status_of}
use Rattle.text.specs.Text.{ascii}
use Rattle.text.proofs.Added.{added_more, added_as}
use Rattle.text_phrases.specs.Phrase.{phrase}
use Rattle.text_phrase_pairs.proofs.Digits.{wide_digits}
use Rattle.text_preview_lines.proofs.LineParts.{passed_parts}
use Rattle.text_preview_lines.proofs.put_passed.Goals as goal

pub put_phrase-at-requires : goal.put_phrase-at-requires
put_phrase-at-requires c = omega (arith, wide_digits c.args.pick (omega arith))

pub put_status-at-requires : goal.put_status-at-requires
put_status-at-requires c = omega (arith, wide_digits c.args.pick (omega arith))

pub put_word-requires : goal.put_word-requires
put_word-requires c =
    omega (
      arith,
      c.put_status-at.ensures.within,
      wide_digits
          c.args.pick (omega arith),
    )

pub returns : goal.returns
unfolding phrase ascii
returns c =
    added_as
    (passed_parts
    c.args.pick
    (status_of
    c.args.state))
    (added_more
    (added_more c.put_phrase-at.ensures
    c.put_status-at.ensures.wrote) c.put_word.ensures)
