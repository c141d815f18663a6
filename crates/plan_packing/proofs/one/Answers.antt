-- `one` meets its contract. Assumes nothing.
use mathlib.Core.Path.{sym, ◌∙◌}
use Rattle.plan_packing.proofs.PackedWords.{read_is, one_other}
use Rattle.plan_packing.proofs.one.Goals as goal

pub returns-then-tag-eq-READ : goal.returns-then-tag-eq-READ
returns-then-tag-eq-READ c = read_is _ _ _ _ c.if-tag-eq-READ.true (sym c.tag-tag.ensures ∙ c.if-tag-eq-READ.true) c.field_of.ensures

pub returns : goal.returns
returns c = rw c.tag-tag.ensures (sym (one_other _ _ (λ e. c.if-tag-eq-READ.false (c.tag-tag.ensures ∙ e))))
