-- `act_read` meets its contract. Assumes nothing.
use mathlib.Core.Path.{sym, ◌∙◌}
use Rattle.run_accesses.specs.Inner.Accesses.{act_read}
use borrow.Author.Rules.{rules}
use Rattle.run_accesses.proofs.act_read.Goals as goal

pub returns-then-has : goal.returns-then-has
unfolding act_read
returns-then-has c = simp (
  c.heard.ensures,
  c.entry-entry.ensures,
  c.join-joined.ensures.exact,
  c.passed_on-passed.ensures,
  c.value-go.ensures,
  sym c.has.ensures
      ∙ c.if-has.true,
)

pub returns : goal.returns
unfolding act_read
returns c = simp (
  c.acted_of.ensures,
  c.entry-entry-2.ensures,
  c.value-go.ensures,
  sym c.has.ensures ∙ c.if-has.false,
)
