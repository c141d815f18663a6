use Prim.Native.Nat.{◌-◌, ◌*◌, ◌%◌, ◌^◌, ◌≤◌}
use native.Mathlib.Omega.{arith}
use mathlib.Core.Path.{refl, sym, ◌∙◌}
use Rattle.format.proofs.BitLaws.{shl_one}
use Rattle.plan_reader.proofs.VolatileFields.{next_is, starts, power_small, goes_on_lem, mask_is, rest_is, mask_at_end, rest_at_end}
use borrow.Author.Rules.{rules}
use Rattle.plan_reader.proofs.fields.Goals as goal

pub loop-at-init : goal.loop-at-init
loop-at-init c = starts _ _ c.requires.0

pub returns-then-not-is_next : goal.returns-then-not-is_next
returns-then-not-is_next c =
    let g = c.loop-at.invariant in
    let e = sym c.is_next.ensures ∙ c.if-not-is_next.true in
    let t = c.wide-token.ensures.0 in
    let h = c.loop-at-test.true in
    (record { mask_is = mask_is g _ h t e; rest_is = rest_is g _ h t e; inside = g.inside }, refl)

pub overflow_sub-mask : goal.overflow_sub-mask
overflow_sub-mask c = let q = next_is _ _ (sym c.is_next.ensures ∙ c.if-not-is_next.false) in search (rules, q)

pub overflow_shl-mask : goal.overflow_shl-mask
overflow_shl-mask c = let q = next_is _ _ (sym c.is_next.ensures ∙ c.if-not-is_next.false) in search (rules, q)

pub overflow_add-mask : goal.overflow_add-mask
overflow_add-mask c =
    let g = c.loop-at.invariant in
    let token = c.wide-token.result in
    let p : (1 * 2 ^ (31 - token)) % 2 ^ 64 ≤ 2147483648 = rw (shl_one (31 - token) (omega arith)) (power_small g token) in
    search (rules, g.mask_small, g.last_small, p)

pub loop-at-preserved : goal.loop-at-preserved
loop-at-preserved c =
    let e = sym c.is_next.ensures ∙ c.if-not-is_next.false in
    rw (shl_one (31 - c.wide-token.result) (omega arith)) (goes_on_lem c.loop-at.invariant _ c.loop-at-test.true c.wide-token.ensures.0 e)

pub returns : goal.returns
returns c =
    let g = c.loop-at.invariant in
    let h = c.loop-at-test.false in
    (record { mask_is = mask_at_end g h; rest_is = rest_at_end g h; inside = omega arith }, refl)
