-- Check 7: sets of slots as masks. Assumes nothing.
use mathlib.Core.Path.{◌≡◌, refl, ap, sym, ◌∙◌, fun_ext}
use mathlib.Core.Bool.{Bool, true, false, ◌||◌, not, or_comm}
use mathlib.Core.List.{List}
use Prim.Native.Nat.{ℕ, zero, suc, ◌+◌, ◌-◌, ◌*◌, ◌/◌, ◌%◌, ◌^◌, ◌<◌}
use native.Mathlib.Nat.{div-eq_of_lt, pow-suc, mul-mod_left, one-mul}
use native.Mathlib.Decide.{dec_lt, ℕ_discrete}
use native.Mathlib.Omega.{arith}
use lib.Bits.{bit_or, or_shr, or_mod}
use lib.Pow.{pow-lt, pow_mono, pow-add, pow_pos, shl-shr, high, ones_split, ones_lt}
use lib.Dec.{ltb, eqb}
use borrow.Author.Tests.{lt-ltb, le-ltb, eq-eqb, ne_eqb}
use Rattle.plan_packed.specs.Format.{parameters, root}
use Rattle.plan_packed.specs.Trees.{binder_of, tree_at}
use Rattle.plan_packed.specs.Slots.{closed, bound}
use Rattle.plan_packed.specs.Refusals.{uses_unbound_slot}
use Rattle.plan_packed.specs.Inner.Steps.{bit_of, slots, with_slot}
use Rattle.format.proofs.BitLaws.{shl_one}

-- ---- the slots of a mask

or_digit : (x y : ℕ) → x < 2 → y < 2 → eqb (bit_or x y) 1 ≡ (eqb x 1 || eqb y 1)
or_digit zero zero hx hy = refl
or_digit zero (suc zero) hx hy = refl
or_digit (suc zero) zero hx hy = refl
or_digit (suc zero) (suc zero) hx hy = refl
or_digit (suc (suc x)) y hx hy = absurd (omega arith)
or_digit zero (suc (suc y)) hx hy = absurd (omega arith)
or_digit (suc zero) (suc (suc y)) hx hy = absurd (omega arith)

or_bit : (a b j : ℕ) → bit_of (bit_or a b) j ≡ (bit_of a j || bit_of b j)
or_bit a b j =
    ap (λ (x : ℕ). eqb x 1) (ap (λ (x : ℕ). x % 2) (or_shr a b j) ∙ or_mod (a / 2 ^ j) (b / 2 ^ j) 1)
    ∙ or_digit (a / 2 ^ j % 2) (b / 2 ^ j % 2) (omega arith) (omega arith)

pow_bit : (x : ℕ) → bit_of (2 ^ x) x ≡ true
pow_bit x = let e : 2 ^ x / 2 ^ x ≡ 1 = rw one-mul at (shl-shr 1 x) in rw e

pow_above : (d j : ℕ) → bit_of (2 ^ (suc d + j)) j ≡ false
pow_above d j =
    let q : 2 ^ (suc d + j) / 2 ^ j ≡ 2 ^ d * 2 = rw (pow-add, shl-shr, pow-suc) in
    rw (q, mul-mod_left)

pow_is : (x j : ℕ) → bit_of (2 ^ x) j ≡ eqb x j
pow_is x j = go (ℕ_discrete x j) (dec_lt j x)
  where
    go : Dec (x ≡ j) → Dec (j < x) → bit_of (2 ^ x) j ≡ eqb x j
    go (yes e) d = rw (eq-eqb x j e) (rw e (pow_bit j))
    go (no n) (yes h) =
        let e : suc (x - j - 1) + j ≡ x = omega arith in
        rw (ne_eqb x j n) (rw e at (pow_above (x - j - 1) j))
    go (no n) (no h) = rw (ne_eqb x j n) (rw (div-eq_of_lt (pow-lt {i = x} {j = j} (omega (arith, n, h)))))

-- what a let binds
pub bound_is : (m x : ℕ) → slots (with_slot m x) ≡ bound (binder_of x) (slots m)
unfolding slots with_slot bound binder_of
bound_is m x = go (ℕ_discrete x 15)
  where
    go : Dec (x ≡ 15) → slots (with_slot m x) ≡ bound (binder_of x) (slots m)
    go (yes e) = rw (eq-eqb x 15 e)
    go (no e) = rw (ne_eqb x 15 e) (fun_ext (λ y. or_bit m (2 ^ x) y ∙ rw (pow_is x y) (or_comm (bit_of m y) (eqb x y))))

ones_odd : (j : ℕ) → (2 ^ suc j - 1) % 2 ≡ 1
ones_odd j = rw pow-suc (omega (arith, pow_pos j))

-- the parameters' slots
pub parameters_are : (k : ℕ) → slots (2 ^ k - 1) ≡ (λ x. ltb x k)
unfolding slots
parameters_are k = fun_ext (λ x. go x (dec_lt x k))
  where
    go : (x : ℕ) → Dec (x < k) → bit_of (2 ^ k - 1) x ≡ ltb x k
    go x (yes h) =
        let j = k - x - 1 in
        let e : suc j + x ≡ k = omega arith in
        let q : (2 ^ k - 1) / 2 ^ x ≡ 2 ^ suc j - 1 =
        ap (λ (n : ℕ). (2 ^ n - 1) / 2 ^ x) (sym e) ∙ ap (λ (n : ℕ). n / 2 ^ x) (ones_split (suc j) x) ∙ high (2 ^ suc j - 1) x (ones_lt x) in
        rw (q, ones_odd j, lt-ltb x k h)
    go x (no h) =
        let q : 2 ^ k - 1 < 2 ^ x = let m = pow_mono {i = k} {j = x} (omega (arith, h)) in omega (arith, ones_lt k, m) in
        rw (div-eq_of_lt q, le-ltb x k (omega (arith, h)))

pub open_of : (b : List ℕ) (p k rt : ℕ) (x : Bool) → k ≡ parameters b p → k < 64 → rt ≡ root b p
    → x ≡ closed (slots ((1 * 2 ^ k) % 2 ^ 64 - 1)) (tree_at b rt) → uses_unbound_slot b p ≡ not x
unfolding uses_unbound_slot
open_of b p k rt x e h f g =
    let below' : ℕ → ℕ → Bool = λ j y. ltb y j in
    let q : slots ((1 * 2 ^ k) % 2 ^ 64 - 1) ≡ (λ y. ltb y (parameters b p)) = ap (λ (m : ℕ). slots (m - 1)) (shl_one k h) ∙ parameters_are k ∙ ap below' e in
    let v : x ≡ closed (λ y. ltb y (parameters b p)) (tree_at b (root b p)) = g ∙ rw (q, f) in
    ap not (sym v)
