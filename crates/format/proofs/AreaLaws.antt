-- An area after something is written at its start: its length, its first bytes, its other bytes; one byte more. Assumes nothing.
use Prim.Native.Nat.{ℕ, suc, ◌≤◌, ◌<◌}
use native.Mathlib.Omega.{arith}
use mathlib.Core.Path.{◌≡◌, refl, sym, ap, ◌∙◌}
use mathlib.Core.List.{List, [], ◌∷◌, ◌++◌}
use lib.ListN.{length, length-append, length-drop, get_or, set, take, drop, take-append-drop}
use lib.Seq.{take-append_seam, drop-append_seam, drop-cons, set-append_seam, append_snoc}
use Rattle.format.specs.Area.{overwrite}

-- nothing written
pub overwrite_none : (area : List ℕ) → overwrite [] area ≡ area
unfolding overwrite
overwrite_none area = refl

module _ (bytes area : List ℕ) where
  -- it begins with what is written
  pub overwrite_first : take (length bytes) (overwrite bytes area) ≡ bytes
  unfolding overwrite
  overwrite_first = take-append_seam bytes (drop (length bytes) area)

  pub overwrite_covers : length bytes ≤ length (overwrite bytes area)
  unfolding overwrite
  overwrite_covers = omega (arith, length-append bytes (drop (length bytes) area))

  -- its other bytes keep their values
  pub overwrite_rest : drop (length bytes) (overwrite bytes area) ≡ drop (length bytes) area
  unfolding overwrite
  overwrite_rest = drop-append_seam bytes (drop (length bytes) area)

  -- and its length is the same
  pub overwrite_length : length bytes ≤ length area → length (overwrite bytes area) ≡ length area
  unfolding overwrite
  overwrite_length h = omega (arith, h, length-append bytes (drop (length bytes) area), length-drop (length bytes) area)

  -- it is the only list that begins so and goes on so
  pub overwrite_only : (after : List ℕ) → take (length bytes) after ≡ bytes → drop (length bytes) after ≡ drop (length bytes) area
      → after ≡ overwrite bytes area
  unfolding overwrite
  overwrite_only after front rest = sym (take-append-drop (length bytes) after) ∙ ap (λ (l : List ℕ). l ++ drop (length bytes) after) front
      ∙ ap (λ (l : List ℕ). bytes ++ l) rest

  -- one byte more
  pub overwrite_next : (x : ℕ) → length bytes < length area → set (overwrite bytes area) (length bytes) x ≡ overwrite (bytes ++ (x ∷ [])) area
  unfolding overwrite
  overwrite_next x h =
      let n : length (bytes ++ (x ∷ [])) ≡ suc (length bytes) = omega (arith, length-append bytes (x ∷ [])) in
      ap (λ (l : List ℕ). set (bytes ++ l) (length bytes) x) (drop-cons area (length bytes) 0 h)
      ∙ set-append_seam bytes (get_or area (length bytes) 0) (drop (suc (length bytes)) area) x
      ∙ sym (ap (λ (k : ℕ). (bytes ++ (x ∷ [])) ++ drop k area) n ∙ append_snoc bytes x (drop (suc (length bytes)) area))
