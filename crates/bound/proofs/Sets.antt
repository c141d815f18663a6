-- Sets of procedures as numbers. Assumes nothing.
use Prim.Native.Nat.{ℕ, zero, suc, ◌/◌, ◌%◌, ◌^◌, ◌≤◌, ◌<◌, max}
use native.Mathlib.Nat.{pow-suc}
use native.Mathlib.Omega.{arith}
use mathlib.Core.Path.{◌≡◌, refl, sym, ap, ◌∙◌}
use mathlib.Core.Bool.{Bool, true, false, ◌||◌}
use mathlib.Core.Logic.{◌⊎◌, inl, inr}
use lib.Bits.{bit_or, or_step, or_add_and, and_le_r, or_zero_l}
use lib.Dec.{eqb}
use borrow.Author.Tests.{eqb-true, eq-eqb}
use Rattle.run_keys.specs.Keys.{singleton, holds, union, subset}
use Rattle.run_keys.proofs.KeyLaws.{holds_zero, holds_suc, holds_singleton, holds_union}
use Rattle.costs.proofs.Below.{either}

-- one more element
pub holds_more : (d p q : ℕ) → holds (bit_or d (singleton p)) q ≡ (holds d q || eqb q p)
unfolding union
holds_more d p q = holds_union d (singleton p) q ∙ ap (λ (x : Bool). holds d q || x) (holds_singleton p q)

-- it, or one of the others
pub which : (d p q : ℕ) → holds (bit_or d (singleton p)) q ≡ true → (holds d q ≡ true) ⊎ (q ≡ p)
which d p q h = go (either (holds d q) (eqb q p) (sym (holds_more d p q) ∙ h))
  where
    go : (holds d q ≡ true) ⊎ (eqb q p ≡ true) → (holds d q ≡ true) ⊎ (q ≡ p)
    go (inl a) = inl a
    go (inr a) = inr (eqb-true q p a)

pub has_it : (d p : ℕ) → holds (bit_or d (singleton p)) p ≡ true
has_it d p = holds_more d p p ∙ rw (eq-eqb p p refl) (or_last (holds d p))
  where
    or_last : (x : Bool) → (x || true) ≡ true
    or_last true = refl
    or_last false = refl

-- no less by number
pub grows : (d m : ℕ) → d ≤ bit_or d m
grows d m = omega (arith, or_add_and d m, and_le_r d m)

-- an element of a subset
pub of_subset : (c d q : ℕ) → subset c d ≡ true → holds c q ≡ true → holds d q ≡ true
unfolding subset
of_subset c d q s h = ap (λ (x : ℕ). holds x q) (sym (eqb-true (union c d) d s)) ∙ holds_union c d q ∙ ap (λ (x : Bool). x || holds d q) h

-- a set of whose elements each is in the other is a subset
module _ where
  digit : (x y : ℕ) → x < 2 → (eqb x 1 ≡ true → eqb y 1 ≡ true) → y < 2 → max x y ≡ y
  digit zero y a h b = omega arith
  digit (suc zero) y a h b = let e = eqb-true y 1 (h refl) in omega arith
  digit (suc (suc x)) y a h b = absurd (omega arith)

  included : (n c d : ℕ) → c < 2 ^ n → ((q : ℕ) → q < n → holds c q ≡ true → holds d q ≡ true) → bit_or c d ≡ d
  included zero c d b h = let e : c ≡ 0 = omega arith in rw e (or_zero_l d)
  included (suc n) c d b h =
      let i = included n (c / 2) (d / 2) (let e = pow-suc 2 n in omega arith) (λ q k z. sym (holds_suc d q) ∙ h (suc q) (omega arith) (holds_suc c q ∙ z)) in
      let m = digit (c % 2) (d % 2) (omega arith) (λ z. sym (holds_zero d) ∙ h 0 (omega arith) (holds_zero c ∙ z)) (omega arith) in
      or_step c d ∙ rw (i, m) (omega arith)

pub make_subset : (n c d : ℕ) → c < 2 ^ n → ((q : ℕ) → q < n → holds c q ≡ true → holds d q ≡ true) → subset c d ≡ true
unfolding subset union
make_subset n c d b h = eq-eqb (bit_or c d) d (included n c d b h)
