-- `token_of` meets its contract: a name is at its place or is no token's. Assumes nothing.
use mathlib.Core.Path.{sym}
use Rattle.plan_scanner.proofs.NameLaws.{there, nowhere}
use Rattle.plan_scanner.proofs.names.token_of.Goals as goal

pub returns-then-entry-value : goal.returns-then-entry-value
returns-then-entry-value c = there _ _ (rw c.place_of.ensures at c.entry_at-entry.ensures) c.if-entry-value.true

pub returns : goal.returns
returns c = sym (nowhere _ _ (rw c.place_of.ensures at c.entry_at-entry.ensures) c.if-entry-value.false)
