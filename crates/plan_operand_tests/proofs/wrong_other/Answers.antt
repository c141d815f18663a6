-- `wrong_other`: by what the operand is.
use mathlib.Core.Path.{◌≡◌, refl}
use mathlib.Core.Bool.{Bool}
use Prim.Native.Nat.{ℕ}
use native.Mathlib.Omega.{arith}
use Rattle.plan_packed.specs.Inner.Rows.{bits_to, wrong_other}
use Rattle.plan_operand_tests.proofs.wrong_other.Goals as goal
use Rattle.plan_operand_tests.proofs.wrong_other.Goals.{After-bits_to-bits}

-- the bits that the place cuts off
cut : (c : After-bits_to-bits) (j : ℕ) (r : Bool) → c.args.kind ≡ j
    → r ≡ wrong_other c.args.procedures j c.bits_to-bits.result
    → r ≡ wrong_other c.args.procedures c.args.kind
    (bits_to c.args.place c.args.word)
cut c j r e h = rw (e, ← c.bits_to-bits.ensures) h

pub returns-then-kind-eq0 : goal.returns-then-kind-eq0
returns-then-kind-eq0 c = rw c.if-kind-eq0.true

pub returns-then-kind-eq-SLOT : goal.returns-then-kind-eq-SLOT
returns-then-kind-eq-SLOT c = cut (goal.at.returns-then-kind-eq-SLOT c).After-bits_to-bits 1 _ c.if-kind-eq-SLOT.true refl

pub returns-then-kind-lt-MASK : goal.returns-then-kind-lt-MASK
returns-then-kind-lt-MASK c = let n = c.if-kind-eq-SLOT.false in cut (goal.at.returns-then-kind-lt-MASK c).After-bits_to-bits 2 _ (omega arith) c.wrong_binder.ensures

pub returns-then-kind-gt-FIELD : goal.returns-then-kind-gt-FIELD
returns-then-kind-gt-FIELD c = cut (goal.at.returns-then-kind-gt-FIELD c).After-bits_to-bits 5 _ (omega arith) refl

pub returns-then-kind-gt-MASK : goal.returns-then-kind-gt-MASK
returns-then-kind-gt-MASK c = cut (goal.at.returns-then-kind-gt-MASK c).After-bits_to-bits 4 _ (omega arith) refl

pub returns : goal.returns
returns c = cut (goal.at.returns c).After-bits_to-bits 3 _ (omega arith) c.wrong_mask.ensures
