-- `act_write` meets its contract. Assumes nothing.
use mathlib.Core.Path.{sym, ap, ◌∙◌}
use borrow.Author.Tests.{le-leb, lt-leb}
use Rattle.run_keys.specs.declared.Joined.{Joined}
use Rattle.run_accesses.specs.Inner.Accesses.{act_write}
use borrow.Author.Rules.{rules}
use Rattle.run_accesses.proofs.act_write.Goals as goal

pub returns-then-has : goal.returns-then-has
unfolding act_write
returns-then-has c = simp (
  c.acted_of.ensures,
  c.entry-entry.ensures,
  c.cell_with-changed.ensures,
  ap (λ (j : Joined). j.keys) c.join-joined.ensures.exact,
  c.passed_on-passed.ensures,
  c.value-go.ensures,
  sym c.has.ensures ∙ c.if-has.true,
)

pub returns-then-next-ge256 : goal.returns-then-next-ge256
unfolding act_write
returns-then-next-ge256 c = simp (sym c.has.ensures ∙ c.if-has.false, le-leb _ _ c.if-next-ge256.true)

pub returns : goal.returns
unfolding act_write
returns c = simp (
  c.acted_of-2.ensures,
  c.entry-entry-2.ensures,
  c.cell_with-changed-2.ensures,
  c.learn-known.ensures.exact,
  c.value-go.ensures,
  sym c.has.ensures ∙ c.if-has.false,
  lt-leb _ _ c.if-next-ge256.false,
)
