-- `act_wait` meets its contract. Assumes nothing.
use borrow.Author.Rules.{rules}
use Rattle.run_monitors.proofs.act_wait.Goals as goal

pub returns : goal.returns
returns c =
    simp (
      c.acted_of.ensures,
      c.entry-entry.ensures,
      c.at-go.ensures,
      c.ready_of.ensures,
      c.cell_with-changed.ensures,
    )
