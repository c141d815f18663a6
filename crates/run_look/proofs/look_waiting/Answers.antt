-- `look_waiting` meets its contract. Assumes nothing.
use mathlib.Core.Path.{sym, ◌∙◌}
use borrow.Author.Tests.{eq-eqb, ne_eqb}
use Rattle.run_look.specs.Inner.Look.{look_waiting}
use borrow.Author.Rules.{rules}
use Rattle.run_look.proofs.look_waiting.Goals as goal

pub returns-then-place-ne0 : goal.returns-then-place-ne0
unfolding look_waiting
returns-then-place-ne0 c = simp (ne_eqb _ _ c.if-place-ne0.true)

pub returns-then-is_empty : goal.returns-then-is_empty
unfolding look_waiting
returns-then-is_empty c = simp (eq-eqb _ _ c.if-place-ne0.false, sym c.is_empty.ensures.exact ∙ c.if-is_empty.true)

pub returns-else-is_empty : goal.returns-else-is_empty
unfolding look_waiting
returns-else-is_empty c = simp (eq-eqb _ _ c.if-place-ne0.false, sym c.is_empty.ensures.exact ∙ c.if-is_empty.false)
