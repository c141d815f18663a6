-- Slots in one number: a value put into the number is put into its slots. Assumes nothing.
use Prim.Native.Nat.{ℕ, zero, suc, ◌+◌, ◌*◌, ◌/◌, ◌%◌, ◌^◌, ◌≤◌, ◌<◌}
use native.Mathlib.Nat.{mul_assoc, div-div-eq-div-mul, div-one, mul_comm}
use native.Mathlib.Omega.{arith}
use native.Mathlib.Decide.{ℕ_discrete}
use mathlib.Core.Path.{◌≡◌, refl, sym, ap, ◌∙◌, fun_ext}
use mathlib.Core.Bool.{cond}
use lib.Dec.{eqb}
use lib.Pow.{pow-add}
use borrow.Author.Tests.{eq-eqb, ne_eqb}
use Rattle.machine.specs.Inner.Frames.{put}
use Rattle.machine.specs.Inner.PackedSlots.{slots_in, put_in}

-- a slot's unit, one slot up
unit_up : (x : ℕ) → 2 ^ (5 * suc x) ≡ 2 ^ (5 * x) * 32
unit_up x = let e : 5 * suc x ≡ 5 * x + 5 = omega arith in ap (λ (k : ℕ). 2 ^ k) e ∙ pow-add 2 (5 * x) 5

slot_zero : (w : ℕ) → slots_in w 0 ≡ w % 32
unfolding slots_in
slot_zero w = ap (λ (n : ℕ). n % 32) (div-one w)

slot_up : (w x : ℕ) → slots_in w (suc x) ≡ slots_in (w / 32) x
unfolding slots_in
slot_up w x = ap (λ (n : ℕ). n % 32) (ap (λ (u : ℕ). w / u) (unit_up x ∙ mul_comm (2 ^ (5 * x)) 32) ∙ sym (div-div-eq-div-mul w 32 (2 ^ (5 * x))))

-- ---- a put, slot by slot

put_by : ℕ → ℕ → ℕ → ℕ
put_by w zero v = w / 32 * 32 + v
put_by w (suc x) v = put_by (w / 32) x v * 32 + w % 32

-- what was in the slot comes out, and v goes in
put_sum : (w x v : ℕ) → put_by w x v + slots_in w x * 2 ^ (5 * x) ≡ w + v * 2 ^ (5 * x)
unfolding put_by
put_sum w zero v = rw slot_zero (omega arith)
put_sum w (suc x) v =
    let p = put_by (w / 32) x v in
    let s = slots_in (w / 32) x in
    let u = 2 ^ (5 * x) in
    let a : s * (u * 32) ≡ s * u * 32 = sym (mul_assoc s u 32) in
    let b : v * (u * 32) ≡ v * u * 32 = sym (mul_assoc v u 32) in
    rw (slot_up w x, unit_up x) (omega (arith, put_sum (w / 32) x v, a, b))

slot_small : (w x : ℕ) → slots_in w x * 2 ^ (5 * x) ≤ w
unfolding slots_in
slot_small w zero = omega arith
slot_small w (suc x) =
    let s = slots_in (w / 32) x in
    let u = 2 ^ (5 * x) in
    let a : s * (u * 32) ≡ s * u * 32 = sym (mul_assoc s u 32) in
    rw (slot_up w x, unit_up x) (omega (arith, slot_small (w / 32) x, a))

put_is : (w x v : ℕ) → put_in w x v ≡ put_by w x v
unfolding put_in slots_in
put_is w x v = omega (arith, put_sum w x v, slot_small w x)

-- the slot itself
put_same : (w x v : ℕ) → v < 32 → slots_in (put_by w x v) x ≡ v
unfolding put_by
put_same w zero v h = slot_zero (w / 32 * 32 + v) ∙ omega arith
put_same w (suc x) v h =
    let e : (put_by (w / 32) x v * 32 + w % 32) / 32 ≡ put_by (w / 32) x v = omega arith in
    slot_up (put_by (w / 32) x v * 32 + w % 32) x ∙ ap (λ (n : ℕ). slots_in n x) e ∙ put_same (w / 32) x v h

-- another slot
put_other : (w x v : ℕ) → v < 32 → (y : ℕ) → (x ≡ y → ⊥) → slots_in (put_by w x v) y ≡ slots_in w y
unfolding put_by
put_other w zero v h zero n = absurd (n refl)
put_other w zero v h (suc y) n =
    let e : (w / 32 * 32 + v) / 32 ≡ w / 32 = omega arith in
    slot_up (w / 32 * 32 + v) y ∙ ap (λ (n : ℕ). slots_in n y) e ∙ sym (slot_up w y)
put_other w (suc x) v h zero n =
    let e : (put_by (w / 32) x v * 32 + w % 32) % 32 ≡ w % 32 = omega arith in
    slot_zero (put_by (w / 32) x v * 32 + w % 32) ∙ e ∙ sym (slot_zero w)
put_other w (suc x) v h (suc y) n =
    let e : (put_by (w / 32) x v * 32 + w % 32) / 32 ≡ put_by (w / 32) x v = omega arith in
    slot_up (put_by (w / 32) x v * 32 + w % 32) y ∙ ap (λ (n : ℕ). slots_in n y) e ∙ put_other (w / 32) x v h y (λ q. n (ap suc q)) ∙ sym (slot_up w y)

put_slot : (w x v : ℕ) → v < 32 → (y : ℕ) → slots_in (put_by w x v) y ≡ put (slots_in w) x v y
unfolding put
put_slot w x v h y = at (ℕ_discrete x y)
  where
    at : Dec (x ≡ y) → slots_in (put_by w x v) y ≡ cond (eqb x y) v (slots_in w y)
    at (yes e) = rw (eq-eqb x y e) (rw (← e) (put_same w x v h))
    at (no n) = rw (ne_eqb x y n) (put_other w x v h y n)

-- a value put into the number is put into its slots
pub put_in_lem : (w x v : ℕ) → v < 32 → slots_in (put_in w x v) ≡ put (slots_in w) x v
put_in_lem w x v h = fun_ext (λ y. ap (λ (n : ℕ). slots_in n y) (put_is w x v) ∙ put_slot w x v h y)
