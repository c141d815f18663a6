use Prim.Native.Nat.{◌-◌}
use Prim.Native.Nat.{ℕ}
use native.Mathlib.Omega.{arith}
use mathlib.Core.Path.{◌≡◌, refl, sym, ap, ◌∙◌}
use Rattle.plan_packed.specs.Format.{fields_from}
use Rattle.plan_token_writer.proofs.Fields.{skip_field}
use Rattle.plan_tokens.proofs.first_field.Goals as goal

pub loop-field-init : goal.loop-field-init
loop-field-init c = (omega arith, refl)

pub returns-then-bit-eq1 : goal.returns-then-bit-eq1
returns-then-bit-eq1 c =
    let l = c.loop-field in
    record { same = l.invariant.1; small = c.loop-field-test.true; there = sym c.bit.ensures ∙ c.if-bit-eq1.true }

pub loop-field-preserved : goal.loop-field-preserved
loop-field-preserved c =
    let l = c.loop-field in
    let h = c.loop-field-test.true in
    (omega arith, l.invariant.1 ∙ skip_field _ _ h (λ e. c.if-bit-eq1.false (c.bit.ensures ∙ e)))

pub returns : goal.returns
unfolding fields_from
returns c =
    let l = c.loop-field in
    let e : l.field ≡ 32 = omega (arith, l.invariant.0) in
    l.invariant.1 ∙ ap (λ (f : ℕ). fields_from c.args.mask f (32 - f)) e
