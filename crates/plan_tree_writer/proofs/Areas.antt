-- Stores into an area: one after the other, and in places apart. Assumes nothing.
use Prim.Native.Nat.{ℕ, suc, ◌+◌, ◌≤◌, ◌<◌}
use native.Mathlib.Omega.{arith}
use mathlib.Core.Path.{◌≡◌, refl, ap, ◌∙◌}
use mathlib.Core.List.{List, [], ◌∷◌, ◌++◌}
use lib.ListN.{length, set}
use lib.Seq.{sets, set_comm}

-- one after the other
pub sets_append : (xs ys l : List ℕ) (i j : ℕ) → i + length xs ≡ j → sets l i (xs ++ ys) ≡ sets (sets l i xs) j ys
sets_append [] ys l i j e = let z : i ≡ j = omega arith in rw z
sets_append (x ∷ xs) ys l i j e = sets_append xs ys (set l i x) (suc i) j (omega arith)

-- in places apart, either may come first
set_apart : (ys l : List ℕ) (i j x : ℕ) → i < j → set (sets l j ys) i x ≡ sets (set l i x) j ys
set_apart [] l i j x h = refl
set_apart (y ∷ ys) l i j x h = set_apart ys (set l j y) i (suc j) x (omega arith)
    ∙ ap (λ (m : List ℕ). sets m (suc j) ys) (set_comm l j i y x (λ e. omega arith))

pub sets_apart : (xs ys l : List ℕ) (i j : ℕ) → i + length xs ≤ j → sets (sets l j ys) i xs ≡ sets (sets l i xs) j ys
sets_apart [] ys l i j h = refl
sets_apart (x ∷ xs) ys l i j h = ap (λ (m : List ℕ). sets m (suc i) xs) (set_apart ys l i j x (omega arith))
    ∙ sets_apart xs ys (set l i x) (suc i) j (omega arith)
