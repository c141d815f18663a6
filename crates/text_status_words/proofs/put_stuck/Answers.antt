-- `put_stuck` meets its contract. Assumes nothing.
use native.Mathlib.Omega.{arith}
use mathlib.Core.Path.{sym}
use Rattle.play.specs.Answer.{stuck_of}
use Rattle.text.specs.Text.{ascii}
use Rattle.text_phrases.specs.Phrase.{phrase}
use Rattle.text_status_words.specs.Words.{stuck_words}
use Rattle.text.proofs.Added.{added_as}
use Rattle.text_phrase_pairs.proofs.Digits.{wide_digits}
use Rattle.text_status_words.proofs.StatusWords.{stuck_is}
use borrow.Author.Rules.{rules}
use Rattle.text_status_words.proofs.put_stuck.Goals as goal

pub put_two-requires : goal.put_two-requires
put_two-requires c =
    omega (
      arith,
      wide_digits c.in-Field.object (omega arith),
      wide_digits
          c.in-Field.field (omega arith),
    )

pub put_phrase-requires : goal.put_phrase-requires
put_phrase-requires c = omega (arith, wide_digits c.in-Thread.object (omega arith))

pub put_phrase-requires-in-Monitor : goal.put_phrase-requires-in-Monitor
put_phrase-requires-in-Monitor c = omega (arith, wide_digits c.in-Monitor.object (omega arith))

pub returns-in-Field : goal.returns-in-Field
unfolding stuck_words stuck_of phrase ascii
returns-in-Field c = record {
  wrote = added_as (sym (stuck_is c.in-Field.is))
      c.put_two.ensures.wrote;
  within = omega (arith, c.put_two.ensures.upper_bound);
}

pub returns-in-Thread : goal.returns-in-Thread
unfolding stuck_words stuck_of phrase ascii
returns-in-Thread c = record {
  wrote = added_as (sym (stuck_is c.in-Thread.is)) c.put_phrase.ensures;
  within = omega (
    arith,
    c.put_phrase.ensures.next,
    wide_digits c.in-Thread.object
        (omega arith),
  );
}

pub returns-in-Monitor : goal.returns-in-Monitor
unfolding stuck_words stuck_of phrase ascii
returns-in-Monitor c = record {
  wrote = added_as (sym (stuck_is c.in-Monitor.is)) c.put_phrase-in-Monitor.ensures;
  within = omega (
    arith,
    c.put_phrase-in-Monitor.ensures.next,
    wide_digits c.in-Monitor.object
        (omega arith),
  );
}

pub returns-in-NoRule : goal.returns-in-NoRule
unfolding stuck_words stuck_of phrase ascii
returns-in-NoRule c = record {
  wrote = added_as (sym (stuck_is c.in-NoRule.is)) c.put_word.ensures;
  within = omega
      (arith, c.put_word.ensures.next);
}
