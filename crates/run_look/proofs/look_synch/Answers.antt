-- `look_synch` meets its contract. Assumes nothing.
use mathlib.Core.Path.{sym, ◌∙◌}
use borrow.Author.Tests.{eq-eqb, ne_eqb}
use Rattle.run_look.specs.Inner.Look.{look_synch}
use borrow.Author.Rules.{rules}
use Rattle.run_look.proofs.look_synch.Goals as goal
use Rattle.run_look.proofs.look_synch.Goals.{else-is_empty-via-then-is_empty+else-cell-head, else-is_empty-via-else-is_empty}

pub returns-then-cell-head : goal.returns-then-cell-head
unfolding look_synch
returns-then-cell-head c = simp (sym c.is_empty.ensures.exact ∙ c.if-is_empty.true, ne_eqb _ _ c.if-cell-head.true)

pub returns : goal.returns
unfolding look_synch
returns c =
    elim c.else-is_empty.branch [
      | else-is_empty-via-then-is_empty+else-cell-head w ↦ simp (sym c.is_empty.ensures.exact ∙ w.if-is_empty.true, eq-eqb _ _ w.if-cell-head.false)
      | else-is_empty-via-else-is_empty w ↦ simp (sym c.is_empty.ensures.exact ∙ w.if-is_empty.false)
    ]
