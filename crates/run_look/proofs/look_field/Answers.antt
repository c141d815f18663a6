-- `look_field` meets its contract. Assumes nothing.
use mathlib.Core.Path.{sym, ◌∙◌}
use borrow.Author.Tests.{not-true, not-false}
use Rattle.run_look.specs.Inner.Look.{look_field}
use borrow.Author.Rules.{rules}
use Rattle.run_look.proofs.look_field.Goals as goal

pub returns-then-not-has : goal.returns-then-not-has
unfolding look_field
returns-then-not-has c = simp (sym c.has.ensures ∙ not-true _ c.if-not-has.true-raw)

pub returns-then-has : goal.returns-then-has
unfolding look_field
returns-then-has c = simp (sym c.has.ensures ∙ not-false _ c.if-not-has.false-raw, sym c.has-2.ensures ∙ c.if-has.true)

pub returns-then-holds : goal.returns-then-holds
unfolding look_field
returns-then-holds c = simp (
  sym c.has.ensures
      ∙ not-false _ c.if-not-has.false-raw,
  sym c.has-2.ensures
      ∙ c.if-has.false,
  sym c.holds.ensures.exact ∙ c.if-holds.true,
)

pub returns : goal.returns
unfolding look_field
returns c = simp (
  sym c.has.ensures
      ∙ not-false _ c.if-not-has.false-raw,
  sym c.has-2.ensures
      ∙ c.if-has.false,
  sym c.holds.ensures.exact ∙ c.if-holds.false,
)
