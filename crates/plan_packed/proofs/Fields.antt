-- The fields of a mask: their count. Assumes nothing.
use Prim.Native.Nat.{ℕ, zero, suc, ◌+◌, ◌-◌, ◌/◌, ◌%◌, ◌^◌}
use native.Mathlib.Nat.{div-one}
use native.Mathlib.Omega.{arith}
use mathlib.Core.Path.{◌≡◌, refl}
use mathlib.Core.Bool.{Bool, true, false, cond}
use mathlib.Core.List.{◌∷◌}
use lib.Dec.{eqb}
use lib.ListN.{length}
use lib.Pow.{shr-shr}
use borrow.Author.Tests.{eqb-true, eqb-false}
use Rattle.plan_packed.specs.Format.{mask_bit, fields_from}

-- how many of the last n bits of a mask are set
unfoldable pub ones_of : ℕ → ℕ → ℕ
ones_of zero m = 0
ones_of (suc n) m = m % 2 + ones_of n (m / 2)

-- one more bit at the top
ones_top : (n m : ℕ) → ones_of (suc n) m ≡ ones_of n m + m / 2 ^ n % 2
unfolding ones_of
ones_top zero m = rw (div-one m) (omega arith)
ones_top (suc n) m =
    let q : 1 + n ≡ suc n = omega arith in
    let e : m / 2 / 2 ^ n ≡ m / 2 ^ suc n = rw q at (shr-shr m 1 n) in
    omega (arith, ones_top n (m / 2), e)

fields_ones : (m f n : ℕ) → f + n ≡ 32 → length (fields_from m f n) ≡ ones_of n m
unfolding fields_from mask_bit ones_of
fields_ones m f zero e = refl
fields_ones m f (suc n) e = go (eqb (mask_bit m f) 1) refl (fields_ones m (suc f) n (omega arith))
  where
    top : mask_bit m f ≡ m / 2 ^ n % 2
    top = let q : 31 - f ≡ n = omega arith in rw q

    go : (x : Bool) → eqb (mask_bit m f) 1 ≡ x → length (fields_from m (suc f) n) ≡ ones_of n m
        → length (cond x (f ∷ fields_from m (suc f) n) (fields_from m (suc f) n)) ≡ ones_of (suc n) m
    go true q r = let s = eqb-true (mask_bit m f) 1 q in omega (arith, ones_top n m, top)
    go false q r = omega (arith, ones_top n m, top, eqb-false (mask_bit m f) 1 q)

-- a mask names as many fields as it has bits set
pub fields_count : (m : ℕ) → length (fields_from m 0 32) ≡ ones_of 32 m
fields_count m = fields_ones m 0 32 (omega arith)
