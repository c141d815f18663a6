-- `act_hold` meets its contract. Assumes nothing.
use borrow.Author.Rules.{rules}
use Rattle.run_monitors.proofs.act_hold.Goals as goal

pub returns : goal.returns
returns c = simp (c.acted_of.ensures, c.entry-entry.ensures, c.value-go.ensures, c.cell_with-changed.ensures)
