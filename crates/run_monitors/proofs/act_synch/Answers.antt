-- `act_synch` meets its contract. Assumes nothing.
use mathlib.Core.Path.{sym, ◌∙◌}
use Rattle.run_monitors.specs.Inner.Monitors.{act_synch}
use borrow.Author.Rules.{rules}
use Rattle.run_monitors.proofs.act_synch.Goals as goal

pub returns-then-is_empty : goal.returns-then-is_empty
unfolding act_synch
returns-then-is_empty c = simp (c.go_on.ensures, c.run.ensures, sym c.is_empty.ensures.exact ∙ c.if-is_empty.true)

pub returns : goal.returns
unfolding act_synch
returns c = simp (
  c.heard.ensures,
  c.entry-entry.ensures,
  c.want-go.ensures,
  c.cell_with-changed.ensures,
  c.new-none.ensures.exact,
  c.join-joined.ensures.exact,
  sym c.is_empty.ensures.exact ∙ c.if-is_empty.false,
)
