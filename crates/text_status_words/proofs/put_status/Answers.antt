-- `put_status` meets its contract. Assumes nothing.
use native.Mathlib.Omega.{arith}
use mathlib.Core.Path.{sym}
use Rattle.play.specs.Answer.{status_of}
use Rattle.text.specs.Text.{ascii}
use Rattle.text_phrases.specs.Phrase.{phrase}
use Rattle.text_status_words.specs.Words.{status_words}
use Rattle.text.proofs.Added.{added_as}
use Rattle.text_phrase_pairs.proofs.Digits.{wide_digits}
use Rattle.text_status_words.proofs.StatusWords.{status_is}
use borrow.Author.Rules.{rules}
use Rattle.text_status_words.proofs.put_status.Goals as goal

pub put_phrase-requires : goal.put_phrase-requires
put_phrase-requires c = omega (arith, wide_digits c.in-Finished.value (omega arith))

pub put_two-requires : goal.put_two-requires
put_two-requires c =
    omega (
      arith,
      wide_digits c.in-Lacking.object (omega arith),
      wide_digits
          c.in-Lacking.field (omega arith),
    )

pub returns-in-Absent : goal.returns-in-Absent
unfolding status_words status_of phrase ascii
returns-in-Absent c = record {
  wrote = added_as (sym (status_is c.in-Absent.is)) c.put_word.ensures;
  within = omega
      (arith, c.put_word.ensures.next);
}

pub returns-in-Finished : goal.returns-in-Finished
unfolding status_words status_of phrase ascii
returns-in-Finished c = record {
  wrote = added_as (sym (status_is c.in-Finished.is)) c.put_phrase.ensures;
  within = omega (
    arith,
    c.put_phrase.ensures.next,
    wide_digits c.in-Finished.value
        (omega arith),
  );
}

pub returns-in-Ready : goal.returns-in-Ready
unfolding status_words status_of phrase ascii
returns-in-Ready c = record {
  wrote = added_as (sym (status_is c.in-Ready.is)) c.put_word-in-Ready.ensures;
  within = omega
      (arith, c.put_word-in-Ready.ensures.next);
}

pub returns-in-Waiting : goal.returns-in-Waiting
unfolding status_words status_of phrase ascii
returns-in-Waiting c = record { wrote = added_as (sym (status_is c.in-Waiting.is)) c.put_wait.ensures.wrote; within = c.put_wait.ensures.within }

pub returns-in-Stuck : goal.returns-in-Stuck
unfolding status_words status_of phrase ascii
returns-in-Stuck c = record { wrote = added_as (sym (status_is c.in-Stuck.is)) c.put_stuck.ensures.wrote; within = c.put_stuck.ensures.within }

pub returns-in-Lacking : goal.returns-in-Lacking
unfolding status_words status_of phrase ascii
returns-in-Lacking c = record {
  wrote = added_as (sym (status_is c.in-Lacking.is))
      c.put_two.ensures.wrote;
  within = omega (arith, c.put_two.ensures.upper_bound);
}
