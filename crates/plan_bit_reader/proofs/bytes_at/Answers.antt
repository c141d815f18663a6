use mathlib.Core.Path.{◌≡◌, refl, ap, sym, ◌∙◌}
use mathlib.Core.List.{List}
use Prim.Native.Nat.{ℕ, ◌+◌, ◌-◌, ◌*◌, ◌≤◌, ◌<◌}
use native.Mathlib.Omega.{arith}
use lib.ListN.{length, get_or, take, drop}
use lib.Pow.{pow_mono}
use Rattle.std.proofs.lemmas.List.{length-take-le, length-drop, get_or-take, get_or-drop}
use Rattle.format.specs.Bits.{bits_at}
use Rattle.format.proofs.BitLaws.{bits_below, byte_more}
use Rattle.plan_bit_reader.proofs.bytes_at.Goals as goal

-- five bytes leave room for one more
small : (l : List ℕ) (p n : ℕ) → n < 6 → bits_at l p (n * 8) < 1099511627776
small l p n h = let m : n * 8 ≤ 40 = omega arith in omega (arith, bits_below l p (n * 8), pow_mono m)

-- the part of the plan that is read has n bytes
size : (l : List ℕ) (s n : ℕ) → s + n ≤ length l → length (take (s + n - s) (drop s l)) ≡ n
size l s n h = let k : s + n - s ≤ length (drop s l) = omega (arith, length-drop s l) in omega (arith, length-take-le (s + n - s) (drop s l) k)

-- its bytes are those of the plan from byte s on
item : (l : List ℕ) (s n i : ℕ) → i < n → get_or (take (s + n - s) (drop s l)) i 0 ≡ get_or l (s + i) 0
item l s n i h = let k : i < s + n - s = omega arith in get_or-take (s + n - s) (drop s l) i 0 k ∙ get_or-drop s l i 0

-- a byte more
more : (l : List ℕ) (s n i v : ℕ) → i < n → get_or l (s + i) 0 < 256 → v ≡ bits_at l (s * 8) (i * 8)
    → v * 256 + get_or (take (s + n - s) (drop s l)) i 0 ≡ bits_at l (s * 8) ((i + 1) * 8)
more l s n i v h b e =
    let next : i * 8 + 8 ≡ (i + 1) * 8 = omega arith in
    ap (λ (x : ℕ). v * 256 + x) (item l s n i h) ∙ sym (ap (bits_at l (s * 8)) (sym next) ∙ byte_more l s i v b (sym e))

pub loop-byte-init : goal.loop-byte-init
unfolding bits_at
loop-byte-init c = refl

pub overflow_mul-value : goal.overflow_mul-value
overflow_mul-value c =
    let a = c.args in
    let l = c.loop-byte in
    let n = size a.plan.now a.start a.count c.requires.0 in
    omega (arith, n, small a.plan.now (a.start * 8) l.byte-index (omega (arith, n)))

pub overflow_add-value : goal.overflow_add-value
overflow_add-value c =
    let a = c.args in
    let l = c.loop-byte in
    let n = size a.plan.now a.start a.count c.requires.0 in
    omega (
      arith,
      small a.plan.now (a.start * 8) l.byte-index (omega (arith, n)),
      item a.plan.now a.start a.count l.byte-index (omega (arith, n)),
      c.type_inv.plan (a.start + l.byte-index),
    )

pub loop-byte-preserved : goal.loop-byte-preserved
loop-byte-preserved c =
    let a = c.args in
    let l = c.loop-byte in
    more a.plan.now a.start a.count l.byte-index l.value (omega (arith, size a.plan.now a.start a.count c.requires.0))
    (c.type_inv.plan (a.start + l.byte-index)).fits l.invariant

pub returns : goal.returns
returns c =
    let a = c.args in
    let l = c.loop-byte in
    let all : l.byte-index ≡ a.count = omega (arith, size a.plan.now a.start a.count c.requires.0) in
    l.invariant ∙ ap (λ (n : ℕ). bits_at a.plan.now (a.start * 8) (n * 8)) all
