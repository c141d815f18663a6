-- `closed_leaf`: null and new use no slot, a variable its own.
use borrow.Author.Tests.{ne_eqb}
use mathlib.Core.Bool.{not}
use mathlib.Core.Path.{ap, sym, ◌∙◌}
use Rattle.plan_packed.specs.Inner.Steps.{slots}
use Rattle.plan_packed.proofs.Walk.{leaf_closed, leaf_variable}
use Rattle.plan_bound_slots.proofs.closed_leaf.Goals as goal

pub returns-then-tag-ne-VARIABLE : goal.returns-then-tag-ne-VARIABLE
returns-then-tag-ne-VARIABLE c =
    ap not (ne_eqb c.tag.result 1 c.if-tag-ne-VARIABLE.true)
    ∙ leaf_closed c.args.word (slots c.args.bound) c.requires (λ e. c.if-tag-ne-VARIABLE.true (c.tag.ensures ∙ e))

pub returns-else-tag-ne-VARIABLE : goal.returns-else-tag-ne-VARIABLE
unfolding slots
returns-else-tag-ne-VARIABLE c =
    let a = c.args in
    (rw c.slot_of.ensures at c.holds.ensures)
    ∙ leaf_variable a.word (slots a.bound) (sym c.tag.ensures ∙ c.if-tag-ne-VARIABLE.false)
