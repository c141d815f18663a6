-- `text_judge_lines::put_ordered` meets its contract. Assumes nothing.
use Rattle.text.specs.Text.{ascii}
use Rattle.text.proofs.Added.{added_more}
use Rattle.text_judge_lines.specs.Told.{ordered_line}
use Rattle.text_judge_lines.proofs.put_ordered.Goals as goal

pub returns : goal.returns
unfolding ordered_line ascii
returns c = added_more c.put_word-at.ensures c.put_byte.ensures
