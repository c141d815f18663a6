-- `go_on_lem` meets its contract. Assumes nothing.
use borrow.Author.Rules.{rules}
use Rattle.run_state.proofs.acted.go_on.Goals as goal

pub returns : goal.returns
returns c = simp (c.acted_of.ensures, c.entry.ensures)
