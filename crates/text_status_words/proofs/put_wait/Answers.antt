-- `put_wait` meets its contract. Assumes nothing.
use native.Mathlib.Omega.{arith}
use mathlib.Core.Path.{sym}
use Rattle.play.specs.Answer.{wait_of}
use Rattle.text.specs.Text.{ascii}
use Rattle.text_phrases.specs.Phrase.{phrase}
use Rattle.text_status_words.specs.Words.{wait_words}
use Rattle.text.proofs.Added.{added_as}
use Rattle.text_phrase_pairs.proofs.Digits.{wide_digits}
use Rattle.text_status_words.proofs.StatusWords.{wait_is}
use borrow.Author.Rules.{rules}
use Rattle.text_status_words.proofs.put_wait.Goals as goal

pub put_phrase-requires : goal.put_phrase-requires
put_phrase-requires c = omega (arith, wide_digits c.in-Monitor.object (omega arith))

pub put_phrase-requires-in-Join : goal.put_phrase-requires-in-Join
put_phrase-requires-in-Join c = omega (arith, wide_digits c.in-Join.object (omega arith))

pub put_phrase-requires-in-Notify : goal.put_phrase-requires-in-Notify
put_phrase-requires-in-Notify c = omega (arith, wide_digits c.in-Notify.object (omega arith))

pub returns-in-Monitor : goal.returns-in-Monitor
unfolding wait_words wait_of phrase ascii
returns-in-Monitor c = record {
  wrote = added_as (sym (wait_is c.in-Monitor.is)) c.put_phrase.ensures;
  within = omega (
    arith,
    c.put_phrase.ensures.next,
    wide_digits c.in-Monitor.object
        (omega arith),
  );
}

pub returns-in-Join : goal.returns-in-Join
unfolding wait_words wait_of phrase ascii
returns-in-Join c = record {
  wrote = added_as (sym (wait_is c.in-Join.is)) c.put_phrase-in-Join.ensures;
  within = omega (
    arith,
    c.put_phrase-in-Join.ensures.next,
    wide_digits c.in-Join.object
        (omega arith),
  );
}

pub returns-in-Notify : goal.returns-in-Notify
unfolding wait_words wait_of phrase ascii
returns-in-Notify c = record {
  wrote = added_as (sym (wait_is c.in-Notify.is)) c.put_phrase-in-Notify.ensures;
  within = omega (
    arith,
    c.put_phrase-in-Notify.ensures.next,
    wide_digits c.in-Notify.object
        (omega arith),
  );
}
