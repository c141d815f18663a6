-- `rows::drawn` meets its contract: its choices are the definition's. Assumes nothing.
use Rattle.log_marking.specs.Inner.Rows.{drawn_row}
use Rattle.log_marking.proofs.rows.drawn.Goals as goal

-- src/rows.rt:18:1
pub returns : goal.returns
unfolding drawn_row
returns c = rw (c.choose.ensures, c.choose-of_field.ensures, c.choose-of_thread.ensures)
