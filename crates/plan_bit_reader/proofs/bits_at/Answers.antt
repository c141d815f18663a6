-- `bits_at`: of the bytes in which the bits stand, those after them are shifted off and those before them are left out. Assumes nothing.
use mathlib.Core.Path.{◌≡◌, ap, sym, ◌∙◌}
use mathlib.Core.List.{List}
use Prim.Native.Nat.{ℕ, ◌+◌, ◌-◌, ◌*◌, ◌/◌, ◌%◌, ◌^◌, ◌≤◌}
use native.Mathlib.Omega.{arith}
use lib.Pow.{pow_pos}
use Rattle.format.specs.Bits.{bits_at}
use Rattle.format.proofs.BitLaws.{field_of, shl_one}
use Rattle.plan_bit_reader.proofs.bits_at.Goals as goal

-- the bits at p of the number x of their bytes
cut : (l : List ℕ) (p w x : ℕ) → w ≤ 40 → x ≡ bits_at l (p / 8 * 8) ((p % 8 + w + 7) / 8 * 8)
    → x / 2 ^ ((p % 8 + w + 7) / 8 * 8 - (p % 8 + w)) % ((1 * 2 ^ w) % 2 ^ 64) ≡ bits_at l p w
cut l p w x h e =
    let r = (p % 8 + w + 7) / 8 * 8 - (p % 8 + w) in
    let all : p % 8 + w + r ≡ (p % 8 + w + 7) / 8 * 8 = omega arith in
    let place : p / 8 * 8 + p % 8 ≡ p = omega arith in
    ap (λ (m : ℕ). x / 2 ^ r % m) (shl_one w (omega arith))
    ∙ ap (λ (y : ℕ). y / 2 ^ r % 2 ^ w) (e ∙ ap (bits_at l (p / 8 * 8)) (sym all))
    ∙ sym (field_of l (p / 8 * 8) (p % 8) w r)
    ∙ ap (λ (q : ℕ). bits_at l q w) place

pub nonzero_rem-result : goal.nonzero_rem-result
nonzero_rem-result c = let w = c.args.width in rw (shl_one w (omega arith)) (pow_pos w)

pub returns : goal.returns
returns c = let a = c.args in cut a.plan.now a.at a.width c.bytes_at-value.result c.requires.1 c.bytes_at-value.ensures
