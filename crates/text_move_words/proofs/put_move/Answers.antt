-- `put_move` meets its contract. Assumes nothing.
use native.Mathlib.Omega.{arith}
use Rattle.log_records.specs.Packed.{kind_of}
use Rattle.text.specs.Text.{ascii}
use Rattle.text.proofs.Added.{added_as}
use Rattle.text_phrases.specs.Phrase.{phrase}
use Rattle.text_phrase_pairs.proofs.Digits.{wide_digits}
use Rattle.text_move_words.specs.Words.{record_words_by}
use Rattle.text_move_words.proofs.MoveWords.{move_is, move_new}
use borrow.Author.Rules.{rules}
use Rattle.text_move_words.proofs.put_move.Goals as goal

pub put_place-requires : goal.put_place-requires
put_place-requires c = omega (arith, c.requires.room)

pub put_place-requires-in-3 : goal.put_place-requires-in-3
put_place-requires-in-3 c = omega (arith, c.requires.room)

pub put_place-requires-in-4 : goal.put_place-requires-in-4
put_place-requires-in-4 c = omega (arith, c.requires.room)

pub put_place-requires-in-5 : goal.put_place-requires-in-5
put_place-requires-in-5 c = omega (arith, c.requires.room)

pub put_phrase-requires : goal.put_phrase-requires
put_phrase-requires c =
    omega (
      arith,
      c.requires.room,
      wide_digits c.args.columns.object
          (omega (arith, c.requires.narrow.object_below)),
    )

pub put_phrase-requires-in-7 : goal.put_phrase-requires-in-7
put_phrase-requires-in-7 c =
    omega (
      arith,
      c.requires.room,
      wide_digits c.args.columns.object
          (omega (arith, c.requires.narrow.object_below)),
    )

pub put_place-requires-in-8 : goal.put_place-requires-in-8
put_place-requires-in-8 c = omega (arith, c.requires.room)

pub put_place-requires-in-9 : goal.put_place-requires-in-9
put_place-requires-in-9 c = omega (arith, c.requires.room)

pub put_place-requires-in-10 : goal.put_place-requires-in-10
put_place-requires-in-10 c = omega (arith, c.requires.room)

pub put_place-requires-in-11 : goal.put_place-requires-in-11
put_place-requires-in-11 c = omega (arith, c.requires.room)

pub put_phrase-requires-in_default : goal.put_phrase-requires-in_default
put_phrase-requires-in_default c =
    omega (
      arith,
      c.requires.room,
      wide_digits c.args.columns.object
          (omega (arith, c.requires.narrow.object_below)),
    )

pub returns-in-2 : goal.returns-in-2
unfolding record_words_by kind_of phrase ascii
returns-in-2 c = record {
  wrote = added_as
      (move_is c.args.columns c.in-2.is)
      c.put_place.ensures.wrote;
  within = omega (arith, c.put_place.ensures.upper_bound);
}

pub returns-in-3 : goal.returns-in-3
unfolding record_words_by kind_of phrase ascii
returns-in-3 c = record {
  wrote = added_as
      (move_is c.args.columns c.in-3.is)
      c.put_place-in-3.ensures.wrote;
  within = omega (arith, c.put_place-in-3.ensures.upper_bound);
}

pub returns-in-4 : goal.returns-in-4
unfolding record_words_by kind_of phrase ascii
returns-in-4 c = record {
  wrote = added_as
      (move_is c.args.columns c.in-4.is)
      c.put_place-in-4.ensures.wrote;
  within = omega (arith, c.put_place-in-4.ensures.upper_bound);
}

pub returns-in-5 : goal.returns-in-5
unfolding record_words_by kind_of phrase ascii
returns-in-5 c = record {
  wrote = added_as
      (move_is c.args.columns c.in-5.is)
      c.put_place-in-5.ensures.wrote;
  within = omega (arith, c.put_place-in-5.ensures.upper_bound);
}

pub returns-in-6 : goal.returns-in-6
unfolding record_words_by kind_of phrase ascii
returns-in-6 c = record {
  wrote = added_as
      (move_is c.args.columns c.in-6.is)
      c.put_phrase.ensures;
  within = omega (
    arith,
    c.put_phrase.ensures.next,
    wide_digits
        c.args.columns.object
        (omega (arith, c.requires.narrow.object_below)),
  );
}

pub returns-in-7 : goal.returns-in-7
unfolding record_words_by kind_of phrase ascii
returns-in-7 c = record {
  wrote = added_as
      (move_is c.args.columns c.in-7.is)
      c.put_phrase-in-7.ensures;
  within = omega (
    arith,
    c.put_phrase-in-7.ensures.next,
    wide_digits
        c.args.columns.object
        (omega (arith, c.requires.narrow.object_below)),
  );
}

pub returns-in-8 : goal.returns-in-8
unfolding record_words_by kind_of phrase ascii
returns-in-8 c = record {
  wrote = added_as
      (move_is c.args.columns c.in-8.is)
      c.put_place-in-8.ensures.wrote;
  within = omega (arith, c.put_place-in-8.ensures.upper_bound);
}

pub returns-in-9 : goal.returns-in-9
unfolding record_words_by kind_of phrase ascii
returns-in-9 c = record {
  wrote = added_as
      (move_is c.args.columns c.in-9.is)
      c.put_place-in-9.ensures.wrote;
  within = omega (arith, c.put_place-in-9.ensures.upper_bound);
}

pub returns-in-10 : goal.returns-in-10
unfolding record_words_by kind_of phrase ascii
returns-in-10 c = record {
  wrote = added_as
      (move_is c.args.columns c.in-10.is)
      c.put_place-in-10.ensures.wrote;
  within = omega (arith, c.put_place-in-10.ensures.upper_bound);
}

pub returns-in-11 : goal.returns-in-11
unfolding record_words_by kind_of phrase ascii
returns-in-11 c = record {
  wrote = added_as
      (move_is c.args.columns
      c.in-11.is) c.put_place-in-11.ensures.wrote;
  within = omega
      (arith, c.put_place-in-11.ensures.upper_bound);
}

pub returns-in_default : goal.returns-in_default
unfolding record_words_by phrase ascii
returns-in_default c = record {
  wrote = added_as
      (move_new c.args.columns
      c.requires.narrow.kind_below
      c.in_default.in_default-own.rest.0.0.0.0.0.0.0.0.0.1
      c.in_default.in_default-own.rest.0.0.0.0.0.0.0.0.1
      c.in_default.in_default-own.rest.0.0.0.0.0.0.0.1
      c.in_default.in_default-own.rest.0.0.0.0.0.0.1
      c.in_default.in_default-own.rest.0.0.0.0.0.1
      c.in_default.in_default-own.rest.0.0.0.0.1
      c.in_default.in_default-own.rest.0.0.0.1 c.in_default.in_default-own.rest.0.0.1
      c.in_default.in_default-own.rest.0.1 c.in_default.in_default-own.rest.1)
      c.put_phrase-in_default.ensures;
  within = omega (
    arith,
    c.put_phrase-in_default.ensures.next,
    wide_digits
        c.args.columns.object
        (omega (arith, c.requires.narrow.object_below)),
  );
}
