-- `words`: the bytes of the code and those of the sentences, each computed, are the same. Assumes nothing.
use mathlib.Core.Path.{refl}
use Rattle.text.specs.Text.{ascii}
use Rattle.text_word_table.specs.Inner.Table.{joined}
use Rattle.text_refusal_lines.specs.Lines.{sentences}
use Rattle.text_refusal_lines.proofs.sentences.words.Goals as goal

pub returns : goal.returns
unfolding joined sentences ascii
returns c = refl
