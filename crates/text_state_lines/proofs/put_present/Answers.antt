-- `text_state_lines::put_present` meets its contract. Assumes nothing.
use native.Mathlib.Omega.{arith}
use Rattle.play.specs.Answer.{status_of}
use Rattle.text.specs.Text.{ascii}
use Rattle.text.proofs.Added.{added_more, added_as}
use Rattle.text_phrases.specs.Phrase.{phrase}
use Rattle.text_phrase_pairs.proofs.Digits.{wide_digits}
use Rattle.text_state_lines.proofs.LineParts.{present_parts}
use Rattle.text_state_lines.proofs.put_present.Goals as goal

pub put_phrase-at-requires : goal.put_phrase-at-requires
put_phrase-at-requires c = let a = c.args in omega (arith, wide_digits a.index (omega arith))

pub put_status-at-requires : goal.put_status-at-requires
put_status-at-requires c = let a = c.args in omega (arith, wide_digits a.index (omega arith))

pub put_phrase-at-requires-2 : goal.put_phrase-at-requires-2
put_phrase-at-requires-2 c =
    let a = c.args in omega
    (arith, wide_digits a.index (omega arith), wide_digits a.learnt (omega arith))

pub put_byte-requires : goal.put_byte-requires
put_byte-requires c =
    let a = c.args in
    omega (arith, wide_digits a.index (omega arith), wide_digits a.learnt (omega arith))

pub returns : goal.returns
unfolding phrase ascii
returns c =
    let a = c.args in record {
      wrote = added_as (present_parts a.index (status_of a.state) a.learnt)
          (added_more
          (added_more
          (added_more
          c.put_phrase-at.ensures
          c.put_status-at.ensures.wrote)
          c.put_phrase-at-2.ensures) c.put_byte.ensures);
      within = omega (
        arith,
        c.put_phrase-at.ensures.next,
        c.put_status-at.ensures.within,
        c.put_phrase-at-2.ensures.next,
        c.put_byte.ensures.next,
        wide_digits a.index
            (omega arith),
        wide_digits a.learnt (omega arith),
      );
    }
