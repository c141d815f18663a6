-- `act_wake` meets its contract. Assumes nothing.
use borrow.Author.Rules.{rules}
use Rattle.run_monitors.proofs.act_wake.Goals as goal

pub returns : goal.returns
returns c =
    simp (
      c.heard.ensures,
      c.entry-entry.ensures,
      c.value-go.ensures,
      c.cell_with-changed.ensures,
      c.new-none.ensures.exact,
      c.join-joined.ensures.exact,
    )
