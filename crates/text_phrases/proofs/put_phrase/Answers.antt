-- `text_phrases::put_phrase` meets its contract. Assumes nothing.
use native.Mathlib.Omega.{arith}
use lib.ListN.{length-append}
use Rattle.text.specs.Text.{decimal}
use Rattle.text.proofs.Added.{added_more}
use borrow.Author.Rules.{rules}
use Rattle.text_phrases.proofs.put_phrase.Goals as goal

pub put_word-next-requires : goal.put_word-next-requires
put_word-next-requires c = let a = c.args in omega (arith, length-append a.word.now (decimal a.number))

pub put_number-requires : goal.put_number-requires
put_number-requires c =
    let a = c.args in omega (arith, length-append a.word.now (decimal a.number))

pub returns : goal.returns
returns c = added_more c.put_word-next.ensures c.put_number.ensures
