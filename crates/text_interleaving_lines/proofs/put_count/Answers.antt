-- `put_count` meets its contract. Assumes nothing.
use native.Mathlib.Omega.{arith}
use Rattle.text.specs.Text.{ascii, decimal}
use Rattle.text.proofs.Added.{added_more, added_as}
use Rattle.text.proofs.Decimals.{few_digits}
use Rattle.text_phrases.specs.Phrase.{phrase}
use Rattle.text_interleaving_lines.specs.Lines.{count_line}
use borrow.Author.Rules.{rules}
use Rattle.text_interleaving_lines.proofs.put_count.Goals as goal

pub put_phrase-next-requires : goal.put_phrase-next-requires
put_phrase-next-requires c =
    let a = c.args in
    omega (arith, few_digits 19 a.count (omega arith))

pub put_byte-requires : goal.put_byte-requires
put_byte-requires c =
    let a = c.args in
    let w = c.put_phrase-next.ensures in
    omega (arith, w.next, w.kept, few_digits 19 a.count (omega arith))

pub returns : goal.returns
unfolding count_line phrase ascii
returns c = added_more c.put_phrase-next.ensures c.put_byte.ensures
