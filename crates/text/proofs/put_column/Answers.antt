-- `text::put_column` meets its contract. Assumes nothing.
use Rattle.text.proofs.Added.{added_more}
use Rattle.text.proofs.put_column.Goals as goal

pub returns : goal.returns
returns c = added_more c.put_byte-next.ensures c.put_number.ensures
