-- `pair_first` meets its contract. Assumes nothing.
use mathlib.Core.Path.{sym, ◌∙◌}
use borrow.Author.Tests.{eq-eqb, ne_eqb}
use Rattle.plan_tree_writer.proofs.pair_first.Goals as goal

pub returns-then-tag-eq-LET : goal.returns-then-tag-eq-LET
returns-then-tag-eq-LET c = rw (eq-eqb _ _ (sym c.tag.ensures ∙ c.if-tag-eq-LET.true)) c.let_first.ensures

pub returns : goal.returns
returns c = rw (ne_eqb _ _ (λ e. c.if-tag-eq-LET.false (c.tag.ensures ∙ e))) c.first.ensures
