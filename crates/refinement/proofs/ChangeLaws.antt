-- Changes at one place of a list. Assumes nothing.
use Prim.Native.Nat.{ℕ, zero, suc, ◌<◌}
use native.Mathlib.Omega.{arith}
use mathlib.Core.Path.{◌≡◌, refl, sym, ap, ◌∙◌}
use mathlib.Core.List.{List, [], ◌∷◌, ◌++◌}
use mathlib.Core.Option.{some}
use lib.ListN.{length, get_elem?}
use Rattle.rules.specs.State.{change_at}

module _ {A : Type 0} where
  pub change_agree : (xs : List A) (p : ℕ) (h g : A → A) (x : A) → get_elem? xs p ≡ some x → h x ≡ g x → change_at xs p h ≡ change_at xs p g
  unfolding change_at
  change_agree [] p h g x e q = refl
  change_agree (y ∷ xs) zero h g x e q = let z : y ≡ x = cc in ap (λ (a : A). a ∷ xs) (ap h z ∙ q ∙ ap g (sym z))
  change_agree (y ∷ xs) (suc p) h g x e q = ap (λ (l : List A). y ∷ l) (change_agree xs p h g x e q)

  pub change_none : (xs : List A) (p : ℕ) → change_at xs p (λ x. x) ≡ xs
  unfolding change_at
  change_none [] p = refl
  change_none (y ∷ xs) zero = refl
  change_none (y ∷ xs) (suc p) = ap (λ (l : List A). y ∷ l) (change_none xs p)

  pub change_twice : (xs : List A) (p : ℕ) (h g : A → A) → change_at (change_at xs p h) p g ≡ change_at xs p (λ x. g (h x))
  unfolding change_at
  change_twice [] p h g = refl
  change_twice (y ∷ xs) zero h g = refl
  change_twice (y ∷ xs) (suc p) h g = ap (λ (l : List A). y ∷ l) (change_twice xs p h g)

  pub change_before : (xs : List A) (y : A) (p : ℕ) (h : A → A) → p < length xs → change_at (xs ++ (y ∷ [])) p h ≡ change_at xs p h ++ (y ∷ [])
  unfolding change_at
  change_before [] y p h l = absurd (omega arith)
  change_before (x ∷ xs) y zero h l = refl
  change_before (x ∷ xs) y (suc p) h l = ap (λ (l : List A). x ∷ l) (change_before xs y p h (omega arith))
