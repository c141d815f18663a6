-- `words`: the bytes of the code and those of the reasons, each computed, are the same. Assumes nothing.
use mathlib.Core.Path.{refl}
use Rattle.text.specs.Text.{ascii}
use Rattle.text_word_table.specs.Inner.Table.{joined}
use Rattle.text_read_lines.specs.Reasons.{reasons}
use Rattle.text_read_lines.proofs.reasons.words.Goals as goal

pub returns : goal.returns
unfolding joined reasons ascii
returns c = refl
