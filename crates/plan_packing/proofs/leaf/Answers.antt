-- `leaf` meets its contract. Assumes nothing.
use mathlib.Core.Path.{sym, ◌∙◌}
use Rattle.plan_packing.proofs.PackedWords.{variable_is, new_is, leaf_null}
use Rattle.plan_packing.proofs.leaf.Goals as goal

pub returns-in-1 : goal.returns-in-1
returns-in-1 c = variable_is _ (sym c.tag.ensures ∙ c.in-1.is) c.slot_of.ensures

pub returns-in-2 : goal.returns-in-2
returns-in-2 c = new_is _ (sym c.tag.ensures ∙ c.in-2.is) c.mask_of.ensures

pub returns-in_default : goal.returns-in_default
returns-in_default c = sym (leaf_null _ (λ e. c.in_default.in_default-own.rest.0.1 (c.tag.ensures ∙ e)) (λ e. c.in_default.in_default-own.rest.1 (c.tag.ensures ∙ e)))
