-- `state_of` meets its contract. Assumes nothing.
use borrow.Author.Rules.{rules}
use Rattle.run_look.proofs.state_of.Goals as goal

pub returns-in-Lacking : goal.returns-in-Lacking
returns-in-Lacking c = simp (c.field_of.ensures.0, c.object_of.ensures.0, c.in-Lacking.is)

pub returns-in-Blocked : goal.returns-in-Blocked
returns-in-Blocked c = simp (c.blocked.ensures, c.in-Blocked.is)
