-- Fields in their order, from their mask again. Assumes nothing.
use Prim.Native.Nat.{ℕ, zero, suc, ◌+◌, ◌-◌, ◌*◌, ◌^◌, ◌≤◌, ◌<◌}
use native.Mathlib.Nat.{pow-succ', two-pow-succ, mul_assoc, add-mul, one-mul}
use native.Mathlib.Decide.{ℕ_discrete}
use native.Mathlib.Omega.{arith}
use mathlib.Core.Path.{◌≡◌, refl, sym, ap, ◌∙◌}
use mathlib.Core.List.{List, [], ◌∷◌}
use lib.ListN.{length}
use lib.Pow.{high}
use Rattle.plan_packed.specs.Format.{mask_bit, fields_from}
use Rattle.plan_written.specs.Terms.{mask_of}
use Rattle.plan_written.proofs.Right.{Ascending, RightFields}

-- in their order, from field f on
abbrev AtLeast : ℕ → List ℕ → Type 0
AtLeast f [] = Unit {0}
AtLeast f (g ∷ gs) = (f ≤ g) × (g < 32) × Ascending g gs

at_least : (f : ℕ) (fs : List ℕ) → Ascending f fs → AtLeast (suc f) fs
at_least f [] h = tt
at_least f (g ∷ gs) h = h

-- ---- one bit after another: h are the bits before field f, n the fields behind it

twice : (h n : ℕ) → h * 2 ^ suc n ≡ h * 2 * 2 ^ n
twice h n = ap (λ (x : ℕ). h * x) (pow-succ' 2 n) ∙ sym (mul_assoc h 2 (2 ^ n))

one_more_lem : (h n : ℕ) → (h * 2 + 1) * 2 ^ n ≡ h * 2 * 2 ^ n + 2 ^ n
one_more_lem h n = add-mul (h * 2) 1 (2 ^ n) ∙ ap (λ (x : ℕ). h * 2 * 2 ^ n + x) (one-mul (2 ^ n))

module _ (m f n h x : ℕ) (place : f + suc n ≡ 32) (small : x < 2 ^ n) where
  here : 31 - f ≡ n
  here = omega arith

  -- the mask does not have the field, or it has it
  without_field : m ≡ h * 2 * 2 ^ n + x → fields_from m f (suc n) ≡ fields_from (h * 2 * 2 ^ n + x) (suc f) n
  unfolding fields_from mask_bit
  without_field e =
      let bit : mask_bit m f ≡ 0 = rw (here, e, high (h * 2) n small) (omega arith) in
      rw bit (ap (λ (m : ℕ). fields_from m (suc f) n) e)

  with_field : m ≡ (h * 2 + 1) * 2 ^ n + x → fields_from m f (suc n) ≡ f ∷ fields_from ((h * 2 + 1) * 2 ^ n + x) (suc f) n
  unfolding fields_from mask_bit
  with_field e =
      let bit : mask_bit m f ≡ 1 = rw (here, e, high (h * 2 + 1) n small) (omega arith) in
      rw bit (ap (λ (m : ℕ). f ∷ fields_from m (suc f) n) e)

-- ---- the fields of a mask of fields

-- behind other bits
record Back (f n : ℕ) (fs : List ℕ) : Type 0 where
  below : mask_of fs < 2 ^ n
  again : (h : ℕ) → fields_from (h * 2 ^ n + mask_of fs) f n ≡ fs

module _ (f n : ℕ) (place : f + suc n ≡ 32) where
  back_without : (fs : List ℕ) → Back (suc f) n fs → Back f (suc n) fs
  back_without fs b =
      record {
        below = let s = b.below in omega (arith, two-pow-succ n);
        again =
            λ h. without_field (h * 2 ^ suc n + mask_of fs) f n h (mask_of fs) place b.below (ap (λ (y : ℕ). y + mask_of fs) (twice h n)) ∙ b.again (h * 2);
      }

  back_with : (fs : List ℕ) → Back (suc f) n fs → Back f (suc n) (f ∷ fs)
  unfolding mask_of
  back_with fs b =
      let e : 31 - f ≡ n = omega arith in
      record {
        below = rw e (let s = b.below in omega (arith, two-pow-succ n));
        again = λ h. rw e
            (with_field (h * 2 ^ suc n + (2 ^ n + mask_of fs)) f n h (mask_of fs) place b.below (omega (arith, twice h n, one_more_lem h n))
            ∙ ap (λ (gs : List ℕ). f ∷ gs) (b.again (h * 2 + 1)));
      }

back : (n f : ℕ) (fs : List ℕ) → f + n ≡ 32 → AtLeast f fs → Back f n fs
unfolding mask_of fields_from
back zero f [] place up = record { below = omega arith; again = λ h. refl }
back zero f (g ∷ fs) place up = absurd (let a = up.0 in let b = up.1 in omega arith)
back (suc n) f [] place up = back_without f n place [] (back n (suc f) [] (omega arith) tt)
back (suc n) f (g ∷ fs) place up = go (ℕ_discrete f g) (λ a. back n (suc f) (g ∷ fs) (omega arith) (a, up.1, up.2)) (λ a. back n (suc f) fs (omega arith) a)
  where
    go : Dec (f ≡ g) → (suc f ≤ g → Back (suc f) n (g ∷ fs)) → (AtLeast (suc f) fs → Back (suc f) n fs) → Back f (suc n) (g ∷ fs)
    go (yes e) without with' = rw (← e) (back_with f n place fs (with' (rw e (at_least g fs up.2))))
    go (no d) without with' = back_without f n place (g ∷ fs) (without (let a = up.0 in omega (arith, d)))

-- where field 0 is not in the mask, and where it is
pub fields_back : (fs : List ℕ) → Ascending 0 fs → fields_from (mask_of fs) 0 32 ≡ fs
fields_back fs up =
    let e : 0 * 2 ^ 32 + mask_of fs ≡ mask_of fs = omega arith in
    rw e at ((back_without 0 31 (omega arith) fs (back 31 1 fs (omega arith) (at_least 0 fs up))).again 0)

pub fields_behind : (fs : List ℕ) → Ascending 0 fs → fields_from (2 ^ 31 + mask_of fs) 1 31 ≡ fs
fields_behind fs up =
    let e : 1 * 2 ^ 31 + mask_of fs ≡ 2 ^ 31 + mask_of fs = omega arith in
    rw e at ((back 31 1 fs (omega arith) (at_least 0 fs up)).again 1)

pub right_in_order : (fs : List ℕ) → Ascending 0 fs → length fs ≤ 8 → RightFields fs
right_in_order fs up few = record { ascending = up; few = few; of_mask = fields_back fs up }
