-- `item` meets its contract, by the kind of item. Assumes nothing.
use Prim.Native.Nat.{ℕ, ◌+◌}
use native.Mathlib.Omega.{arith}
use mathlib.Core.Path.{◌≡◌, sym, ap, ◌∙◌}
use Rattle.plan_token_writer.specs.Inner.Items.{token, child, binder_on, item_of}
use Rattle.plan_token_writer.proofs.Operands.{item_token, item_child}
use borrow.Author.Rules.{rules}
use Rattle.plan_token_writer.proofs.item.Goals as goal

-- a sum in the other order
shifted : (x y : ℕ) → x ≡ y → 16384 + 32 + x ≡ 16384 + (32 + y)
shifted x y e = omega arith

pub returns-then-number-lt-SLOT : goal.returns-then-number-lt-SLOT
returns-then-number-lt-SLOT c = (sym (item_token _ _ c.if-number-lt-SLOT.true), omega arith)

pub returns-in-70 : goal.returns-in-70
unfolding item_of
returns-in-70 c = (shifted _ _ c.slot_of.ensures ∙ sym (ap (item_of _) c.in-70.is), search rules)

pub returns-in-71 : goal.returns-in-71
unfolding item_of
returns-in-71 c = (
  c.binder.ensures.0 ∙ ap binder_on c.slot_of-in-71.ensures ∙ sym (ap (item_of _) c.in-71.is),
  c.binder.ensures.1,
)

pub returns-in-72 : goal.returns-in-72
unfolding item_of
returns-in-72 c = (ap token c.field_of.ensures ∙ sym (ap (item_of _) c.in-72.is), search rules)

pub returns-in-73 : goal.returns-in-73
unfolding item_of
returns-in-73 c = (ap token c.procedure_of.ensures ∙ sym (ap (item_of _) c.in-73.is), search rules)

pub returns-in_default : goal.returns-in_default
returns-in_default c = (
  ap (child _) c.operand.ensures.0 ∙ sym (item_child _ _ c.if-number-lt-SLOT.false c.in_default.in_default-own.rest),
  omega (arith, c.operand.ensures.1),
)
