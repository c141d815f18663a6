-- `log_effects::step` meets its contract. Assumes nothing.
use mathlib.Core.Path.{refl, sym, ◌∙◌}
use Rattle.log_effects.specs.Inner.Step.{accesses, hears, tells}
use Rattle.log_effects.proofs.Steps.{none_by, placed_by, unplaced_by}
use Rattle.log_effects.proofs.step.Goals as goal

pub returns-in_err-number : goal.returns-in_err-number
returns-in_err-number c = none_by c.from_residual.result c.from_residual.ensures.0 c.in_err-number.ensures

pub returns-then-access : goal.returns-then-access
returns-then-access c =
    placed_by _ _ c.kind_at-kind.ensures c.thread_at-thread.ensures.value c.in_ok-number.ensures c.first-at.ensures refl
    (accesses (sym c.access.ensures ∙ c.if-access.true) c.access-unordered.ensures)

pub returns-in_err-number-2 : goal.returns-in_err-number-2
returns-in_err-number-2 c = none_by c.from_residual-in_err-number-2.result c.from_residual-in_err-number-2.ensures.0 c.in_err-number-2.ensures

pub returns-then-hears : goal.returns-then-hears
returns-then-hears c =
    placed_by _ _ c.kind_at-kind.ensures c.thread_at-thread.ensures.value c.in_ok-number-2.ensures c.first-at-then-hears.ensures refl
    (hears (sym c.hears.ensures ∙ c.if-hears.true) c.hear.ensures)

pub returns-in_err-number-3 : goal.returns-in_err-number-3
returns-in_err-number-3 c = none_by c.from_residual-in_err-number-3.result c.from_residual-in_err-number-3.ensures.0 c.in_err-number-3.ensures

pub returns-then-tells : goal.returns-then-tells
returns-then-tells c =
    placed_by _ _ c.kind_at-kind.ensures c.thread_at-thread.ensures.value c.in_ok-number-3.ensures c.first-at-then-tells.ensures refl
    (tells (sym c.tells.ensures ∙ c.if-tells.true) c.tell.ensures)

pub returns : goal.returns
returns c =
    unplaced_by _ _ c.kind_at-kind.ensures c.thread_at-thread.ensures.value (sym c.access.ensures ∙ c.if-access.false)
    (sym c.hears.ensures ∙ c.if-hears.false) (sym c.tells.ensures ∙ c.if-tells.false) c.elsewhere.ensures
