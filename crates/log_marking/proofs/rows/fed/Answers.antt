-- `rows::fed` meets its contract: its choices are the definition's. Assumes nothing.
use Rattle.log_marking.specs.Inner.Rows.{fed_row}
use Rattle.log_marking.proofs.rows.fed.Goals as goal

-- src/rows.rt:32:1
pub returns : goal.returns
unfolding fed_row
returns c = rw (c.choose.ensures, c.choose-of_field.ensures, c.choose-of_thread.ensures)
