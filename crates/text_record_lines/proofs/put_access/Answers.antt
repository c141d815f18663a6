-- `text_record_lines::put_access` meets its contract. Assumes nothing.
use native.Mathlib.Omega.{arith}
use mathlib.Core.Path.{ap}
use lib.ListN.{length}
use Rattle.log_records.specs.Packed.{kinds, kind_of}
use Rattle.text.specs.Text.{ascii}
use Rattle.text_record_lines.specs.Lines.{kind_word}
use Rattle.text.proofs.Added.{added_as}
use Rattle.text_record_lines.proofs.Words.{kind_is, other_kind, no_access}
use borrow.Author.Rules.{rules}
use Rattle.text_record_lines.proofs.put_access.Goals as goal

pub put_word-requires : goal.put_word-requires
unfolding kind_word kind_of kinds ascii
put_word-requires c = omega (arith, ap length (kind_is _ 2 c.in-2.is))

pub put_word-requires-in-3 : goal.put_word-requires-in-3
unfolding kind_word kind_of kinds ascii
put_word-requires-in-3 c = omega (arith, ap length (kind_is _ 3 c.in-3.is))

pub put_word-requires-in-4 : goal.put_word-requires-in-4
unfolding kind_word kind_of kinds ascii
put_word-requires-in-4 c = omega (arith, ap length (kind_is _ 4 c.in-4.is))

pub put_word-requires-in-5 : goal.put_word-requires-in-5
unfolding kind_word kind_of kinds ascii
put_word-requires-in-5 c = omega (arith, ap length (kind_is _ 5 c.in-5.is))

pub put_word-requires-in_default : goal.put_word-requires-in_default
unfolding kind_word kind_of kinds ascii
put_word-requires-in_default c =
    let rest = c.in_default.in_default-own.rest in
    omega (arith, ap length (other_kind _ (no_access _ c.requires.1 rest.1 rest.0.1 rest.0.0.1 rest.0.0.0.1)))

pub returns-in-2 : goal.returns-in-2
unfolding kind_word kind_of kinds ascii
returns-in-2 c = added_as (kind_is _ 2 c.in-2.is) c.put_word.ensures

pub returns-in-3 : goal.returns-in-3
unfolding kind_word kind_of kinds ascii
returns-in-3 c = added_as (kind_is _ 3 c.in-3.is) c.put_word-in-3.ensures

pub returns-in-4 : goal.returns-in-4
unfolding kind_word kind_of kinds ascii
returns-in-4 c = added_as (kind_is _ 4 c.in-4.is) c.put_word-in-4.ensures

pub returns-in-5 : goal.returns-in-5
unfolding kind_word kind_of kinds ascii
returns-in-5 c = added_as (kind_is _ 5 c.in-5.is) c.put_word-in-5.ensures

pub returns-in_default : goal.returns-in_default
unfolding kind_word kind_of kinds ascii
returns-in_default c =
    let rest = c.in_default.in_default-own.rest in
    added_as (other_kind _ (no_access _ c.requires.1 rest.1 rest.0.1 rest.0.0.1
    rest.0.0.0.1)) c.put_word-in_default.ensures
