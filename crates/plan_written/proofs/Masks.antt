-- A mask and a let's slot, from the tree back to the number. Assumes nothing.
use Prim.Native.Nat.{ℕ, zero, suc, ◌+◌, ◌-◌, ◌*◌, ◌/◌, ◌%◌, ◌^◌, ◌<◌}
use native.Mathlib.Nat.{mod-eq_of_lt}
use native.Mathlib.Omega.{arith}
use mathlib.Core.Path.{◌≡◌, refl, sym, ◌∙◌}
use mathlib.Core.Bool.{Bool, true, false, cond}
use mathlib.Core.List.{◌∷◌}
use mathlib.Core.Option.{some, none}
use lib.Dec.{eqb}
use lib.Pow.{mod-pow-add}
use borrow.Author.Tests.{eqb-true, eqb-false}
use Rattle.plan_packed.specs.Format.{mask_bit, fields_from}
use Rattle.plan_packed.specs.Trees.{binder_of}
use Rattle.plan_written.specs.Terms.{mask_of, slot_of}

-- the fields from field f on give the mask's last n bits
pub mask_from_lem : (m f n : ℕ) → f + n ≡ 32 → mask_of (fields_from m f n) ≡ m % 2 ^ n
unfolding mask_of fields_from mask_bit
mask_from_lem m f zero e = let z : 0 ≡ m % 1 = omega arith in z
mask_from_lem m f (suc n) e = go (eqb (mask_bit m f) 1) refl (mask_from_lem m (suc f) n (omega arith))
  where
    place : 31 - f ≡ n
    place = omega arith

    top : mask_bit m f ≡ m / 2 ^ n % 2
    top = rw place

    more : m % 2 ^ suc n ≡ m / 2 ^ n % 2 * 2 ^ n + m % 2 ^ n
    more = let w : 1 + n ≡ suc n = omega arith in rw w at (mod-pow-add m 1 n)

    go : (x : Bool) → eqb (mask_bit m f) 1 ≡ x → mask_of (fields_from m (suc f) n) ≡ m % 2 ^ n
        → mask_of (cond x (f ∷ fields_from m (suc f) n) (fields_from m (suc f) n)) ≡ m % 2 ^ suc n
    go true q r =
        let one : m / 2 ^ n % 2 ≡ 1 = sym top ∙ eqb-true (mask_bit m f) 1 q in
        let bit : m / 2 ^ n % 2 * 2 ^ n ≡ 2 ^ n = rw one (omega arith) in
        rw place (omega (arith, more, bit))
    go false q r =
        let none : m / 2 ^ n % 2 ≡ 0 = let d = eqb-false (mask_bit m f) 1 q in omega (arith, top, d) in
        let bit : m / 2 ^ n % 2 * 2 ^ n ≡ 0 = rw none (omega arith) in
        omega (arith, more, bit)

pub mask_back : (m : ℕ) → m < 2 ^ 32 → mask_of (fields_from m 0 32) ≡ m
mask_back m h = mask_from_lem m 0 32 (omega arith) ∙ mod-eq_of_lt h

pub slot_back : (x : ℕ) → slot_of (binder_of x) ≡ x
unfolding slot_of binder_of
slot_back x = go (eqb x 15) refl
  where
    go : (y : Bool) → eqb x 15 ≡ y → slot_of (cond y none (some x)) ≡ x
    go true q = sym (eqb-true x 15 q)
    go false q = refl
