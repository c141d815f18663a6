-- `text_preview_lines::put_recorded` meets its contract. Assumes nothing.
use native.Mathlib.Omega.{arith}
use Rattle.text.specs.Text.{ascii}
use Rattle.text.proofs.Added.{added_more, added_as}
use Rattle.text_phrases.specs.Phrase.{phrase}
use Rattle.text_phrase_pairs.proofs.Digits.{wide_digits}
use Rattle.text_preview_lines.proofs.LineParts.{recorded_parts}
use Rattle.text_preview_lines.proofs.put_recorded.Goals as goal

pub put_phrase-at-requires : goal.put_phrase-at-requires
put_phrase-at-requires c =
    omega (
      arith,
      c.requires.0,
      wide_digits c.args.pick
          (omega arith),
    )

pub put_move-at-requires : goal.put_move-at-requires
put_move-at-requires c = record {
  narrow = c.columns_at-columns.ensures.narrow;
  room = omega (
    arith,
    c.requires.0,
    wide_digits
        c.args.pick (omega arith),
  );
}

pub put_word-requires : goal.put_word-requires
put_word-requires c =
    omega (
      arith,
      c.requires.0,
      c.requires.1,
      c.put_phrase-at.ensures.next,
      c.put_move-at.ensures.within,
      wide_digits
          c.args.pick (omega arith),
    )

pub returns : goal.returns
unfolding phrase ascii
returns c =
    added_as
    (recorded_parts
    c.args.pick
    c.columns_at-columns.result
    c.args.bytes
    c.args.end.now
    c.columns_at-columns.ensures)
    (added_more
    (added_more c.put_phrase-at.ensures
    c.put_move-at.ensures.wrote) c.put_word.ensures)
