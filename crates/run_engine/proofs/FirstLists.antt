-- No list is kept at first. Assumes nothing.
use mathlib.Core.Path.{◌≡◌, refl}
use mathlib.Core.List.{List}
use Prim.Native.Nat.{ℕ, zero, suc, ◌%◌}
use native.Mathlib.Omega.{arith}
use lib.ListN.{get_or, replicate}
use Rattle.run_lists.specs.Inner.Lists.{Right}

zeros : (n i : ℕ) → ◌≡◌ {A = ℕ} (get_or (replicate n 0) i 0) 0
zeros zero i = refl
zeros (suc n) zero = refl
zeros (suc n) (suc i) = zeros n i

pub first_lists : (ws : List ℕ) → Right ws (replicate 32 0)
first_lists ws = (refl, λ l h e. let z = zeros 32 (l % 32) in absurd (omega (arith, e, z)))
