-- `inner`: by the tag.
use borrow.Author.Tests.{eq-eqb, ne_eqb}
use Rattle.plan_scopes.specs.Inner.Scopes.{inner_scope}
use Rattle.plan_scopes.proofs.inner.Goals as goal

pub returns-then-tag-ne-LET : goal.returns-then-tag-ne-LET
unfolding inner_scope
returns-then-tag-ne-LET c = simp (ne_eqb _ _ c.if-tag-ne-LET.true)

pub returns : goal.returns
unfolding inner_scope
returns c = simp (eq-eqb _ _ c.if-tag-ne-LET.false, c.with.ensures, c.wide.ensures.0, c.slot_of.ensures)
