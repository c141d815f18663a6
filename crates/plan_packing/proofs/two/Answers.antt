-- `two` meets its contract. Assumes nothing.
use mathlib.Core.Path.{sym, ◌∙◌}
use Rattle.plan_packing.proofs.PackedWords.{write_is, let_is, two_other}
use Rattle.plan_packing.proofs.two.Goals as goal

pub returns-in-4 : goal.returns-in-4
returns-in-4 c = write_is _ _ _ _ _ c.in-4.is (sym c.tag-tag.ensures ∙ c.in-4.is) c.field_of.ensures

pub returns-in-5 : goal.returns-in-5
returns-in-5 c = let_is _ _ _ _ _ c.in-5.is (sym c.tag-tag.ensures ∙ c.in-5.is) c.slot_of.ensures

pub returns-in_default : goal.returns-in_default
returns-in_default c = rw c.tag-tag.ensures
    (sym (two_other _ _ _ (λ e. c.in_default.in_default-own.rest.0.1 (c.tag-tag.ensures ∙ e)) (λ e. c.in_default.in_default-own.rest.1 (c.tag-tag.ensures ∙ e))))
