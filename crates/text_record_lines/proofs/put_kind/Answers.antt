-- `text_record_lines::put_kind` meets its contract. Assumes nothing.
use native.Mathlib.Omega.{arith}
use mathlib.Core.Path.{ap}
use lib.ListN.{length}
use Rattle.log_records.specs.Packed.{kinds, kind_of}
use Rattle.text.specs.Text.{ascii}
use Rattle.text_record_lines.specs.Lines.{kind_word}
use Rattle.text.proofs.Added.{added_as}
use Rattle.text_record_lines.proofs.Words.{kind_is}
use borrow.Author.Rules.{rules}
use Rattle.text_record_lines.proofs.put_kind.Goals as goal

pub put_word-requires : goal.put_word-requires
unfolding kind_word kind_of kinds ascii
put_word-requires c = omega (arith, ap length (kind_is _ 6 c.in-6.is))

pub put_word-requires-in-7 : goal.put_word-requires-in-7
unfolding kind_word kind_of kinds ascii
put_word-requires-in-7 c = omega (arith, ap length (kind_is _ 7 c.in-7.is))

pub put_word-requires-in-8 : goal.put_word-requires-in-8
unfolding kind_word kind_of kinds ascii
put_word-requires-in-8 c = omega (arith, ap length (kind_is _ 8 c.in-8.is))

pub put_word-requires-in-9 : goal.put_word-requires-in-9
unfolding kind_word kind_of kinds ascii
put_word-requires-in-9 c = omega (arith, ap length (kind_is _ 9 c.in-9.is))

pub put_word-requires-in-10 : goal.put_word-requires-in-10
unfolding kind_word kind_of kinds ascii
put_word-requires-in-10 c = omega (arith, ap length (kind_is _ 10 c.in-10.is))

pub put_word-requires-in-11 : goal.put_word-requires-in-11
unfolding kind_word kind_of kinds ascii
put_word-requires-in-11 c = omega (arith, ap length (kind_is _ 11 c.in-11.is))

pub returns-in-6 : goal.returns-in-6
unfolding kind_word kind_of kinds ascii
returns-in-6 c = added_as (kind_is _ 6 c.in-6.is) c.put_word.ensures

pub returns-in-7 : goal.returns-in-7
unfolding kind_word kind_of kinds ascii
returns-in-7 c = added_as (kind_is _ 7 c.in-7.is) c.put_word-in-7.ensures

pub returns-in-8 : goal.returns-in-8
unfolding kind_word kind_of kinds ascii
returns-in-8 c = added_as (kind_is _ 8 c.in-8.is) c.put_word-in-8.ensures

pub returns-in-9 : goal.returns-in-9
unfolding kind_word kind_of kinds ascii
returns-in-9 c = added_as (kind_is _ 9 c.in-9.is) c.put_word-in-9.ensures

pub returns-in-10 : goal.returns-in-10
unfolding kind_word kind_of kinds ascii
returns-in-10 c = added_as (kind_is _ 10 c.in-10.is) c.put_word-in-10.ensures

pub returns-in-11 : goal.returns-in-11
unfolding kind_word kind_of kinds ascii
returns-in-11 c = added_as (kind_is _ 11 c.in-11.is) c.put_word-in-11.ensures
