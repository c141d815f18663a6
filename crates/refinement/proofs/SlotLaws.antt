-- The code's slots: none are bound in 0, a value that is bound in the number is put into its slots, and each slot is below 32. Assumes nothing.
use Prim.Native.Nat.{ℕ, ◌+◌, ◌-◌, ◌*◌, ◌/◌, ◌%◌, ◌^◌, ◌≤◌, ◌<◌}
use native.Mathlib.Nat.{mul_comm, zero-div}
use native.Mathlib.Omega.{arith}
use native.Mathlib.Decide.{dec_lt}
use mathlib.Core.Path.{◌≡◌, refl, sym, ap, ◌∙◌, fun_ext}
use mathlib.Core.Bool.{Bool, true, false, cond}
use mathlib.Core.Logic.{◌⊎◌, inl, inr}
use lib.Dec.{eqb, ltb}
use lib.Pow.{field, mod-mod-pow}
use borrow.Author.Tests.{lt-ltb, le-ltb, eq-eqb, ne_eqb}
use Rattle.plan_packed.specs.Trees.{binder_of}
use Rattle.machine.specs.Inner.Frames.{no_slots, put, put_bound}
use Rattle.machine.specs.Inner.PackedSlots.{slots_in, put_in}
use Rattle.machine.proofs.PackedSlots.{put_in_lem}
use Rattle.run_term_words.specs.Inner.Slots.{slot_of, bind_of}

slot_in : (e y : ℕ) → y < 8 → slot_of e y ≡ slots_in e y
unfolding slot_of slots_in
slot_in e y h = rw (lt-ltb y 8 h) (ap (λ (k : ℕ). e / 2 ^ k % 32) (mul_comm y 5))

slot_past : (e y : ℕ) → 8 ≤ y → slot_of e y ≡ 0
unfolding slot_of
slot_past e y h = rw (le-ltb y 8 h)

-- the first 40 bits have the eight slots
slot_cut : (e y : ℕ) → y < 8 → slots_in (e % 2 ^ 40) y ≡ slots_in e y
unfolding slots_in
slot_cut e y h =
    let p : (40 - 5 * y) + 5 * y ≡ 40 = omega arith in
    let q : (35 - 5 * y) + 5 ≡ 40 - 5 * y = omega arith in
    let f : e % 2 ^ 40 / 2 ^ (5 * y) ≡ e / 2 ^ (5 * y) % 2 ^ (40 - 5 * y) = rw p at (field e (40 - 5 * y) (5 * y)) in
    let m : e / 2 ^ (5 * y) % 2 ^ (40 - 5 * y) % 32 ≡ e / 2 ^ (5 * y) % 32 = rw q at (mod-mod-pow (e / 2 ^ (5 * y)) (35 - 5 * y) 5) in
    ap (λ (n : ℕ). n % 32) f ∙ m

bind_in : (e x v : ℕ) → x < 8 → v < 32 → bind_of e x v ≡ put_in (e % 2 ^ 40) x v
unfolding bind_of put_in
bind_in e x v h l =
    let m : v % 32 ≡ v = omega arith in
    rw (lt-ltb x 8 h, m, mul_comm x 5)

pub none_bound : slot_of 0 ≡ no_slots
unfolding slot_of no_slots
none_bound = fun_ext (λ y. at (ltb y 8) y)
  where
    at : (t : Bool) (y : ℕ) → cond t (0 / 2 ^ (y * 5) % 32) 0 ≡ 0
    at true y = rw zero-div
    at false y = refl

pub bound : (e x v : ℕ) → x < 8 → v < 32 → slot_of (bind_of e x v) ≡ put (slot_of e) x v
unfolding put
bound e x v h l = fun_ext (λ y. at y (dec_lt y 8))
  where
    at : (y : ℕ) → Dec (y < 8) → slot_of (bind_of e x v) y ≡ put (slot_of e) x v y
    at y (yes s) =
        slot_in (bind_of e x v) y s ∙ ap (λ (w : ℕ). slots_in w y) (bind_in e x v h l) ∙ ap (λ (g : ℕ → ℕ). g y) (put_in_lem (e % 2 ^ 40) x v l)
        ∙ ap (λ (o : ℕ). cond (eqb x y) v o) (slot_cut e y s ∙ sym (slot_in e y s))
    at y (no s) =
        let p : 8 ≤ y = omega arith in
        let q : x ≡ y → ⊥ = λ r. omega arith in
        slot_past (bind_of e x v) y p ∙ sym (rw (ne_eqb x y q) (slot_past e y p))

-- a let binds slot 0 to 7, or nothing
pub let_bound : (e x v : ℕ) → (x < 8) ⊎ (x ≡ 15) → v < 32 → slot_of (bind_of e x v) ≡ put_bound (slot_of e) (binder_of x) v
unfolding put_bound binder_of bind_of
let_bound e x v (inl h) l = let q : x ≡ 15 → ⊥ = λ r. omega arith in bound e x v h l ∙ rw (ne_eqb x 15 q)
let_bound e x v (inr h) l = let q : 8 ≤ x = omega arith in rw (eq-eqb x 15 h, le-ltb x 8 q)

pub slot_below : (e x : ℕ) → slot_of e x < 32
unfolding slot_of
slot_below e x = at (ltb x 8)
  where
    at : (t : Bool) → cond t (e / 2 ^ (x * 5) % 32) 0 < 32
    at true = omega arith
    at false = omega arith
