-- `row` meets its contract. Assumes nothing.
use borrow.Author.Tests.{lt-ltb, le-ltb}
use Rattle.text_refusal_lines.specs.Lines.{sentence_row}
use Rattle.text_refusal_lines.proofs.sentences.row.Goals as goal

pub returns-then-number-lt-SENTENCES : goal.returns-then-number-lt-SENTENCES
unfolding sentence_row
returns-then-number-lt-SENTENCES c = simp (lt-ltb _ _ c.if-number-lt-SENTENCES.true)

pub returns-else-number-lt-SENTENCES : goal.returns-else-number-lt-SENTENCES
unfolding sentence_row
returns-else-number-lt-SENTENCES c = simp (le-ltb _ _ c.if-number-lt-SENTENCES.false)
