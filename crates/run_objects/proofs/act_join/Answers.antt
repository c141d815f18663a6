-- `act_join` meets its contract. Assumes nothing.
use borrow.Author.Rules.{rules}
use Rattle.run_objects.proofs.act_join.Goals as goal

pub returns : goal.returns
returns c = simp (c.heard.ensures, c.entry-entry.ensures, c.value-go.ensures, c.join-joined.ensures.exact)
