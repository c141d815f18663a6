-- `put_more` meets its contract. Assumes nothing.
use Rattle.text.specs.Text.{ascii}
use Rattle.text_interleaving_lines.specs.Lines.{more_line}
use borrow.Author.Rules.{rules}
use Rattle.text_interleaving_lines.proofs.put_more.Goals as goal

pub returns : goal.returns
unfolding more_line ascii
returns c = c.put_word.ensures
