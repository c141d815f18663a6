-- `text_preview_lines::put_moved` meets its contract. Assumes nothing.
use native.Mathlib.Omega.{arith}
use Rattle.text.specs.Text.{ascii}
use Rattle.text.proofs.Added.{added_more}
use Rattle.text_phrases.specs.Phrase.{phrase}
use Rattle.text_phrase_pairs.proofs.Digits.{wide_digits}
use Rattle.text_preview_lines.specs.Lines.{preview_line}
use Rattle.text_preview_lines.proofs.put_moved.Goals as goal

pub put_phrase-at-requires : goal.put_phrase-at-requires
put_phrase-at-requires c = omega (arith, wide_digits c.args.pick (omega arith))

pub put_word-requires : goal.put_word-requires
put_word-requires c = omega (arith, wide_digits c.args.pick (omega arith))

pub returns : goal.returns
unfolding preview_line phrase ascii
returns c = added_more c.put_phrase-at.ensures c.put_word.ensures
