-- The stores of a number of two bytes, and of four. Assumes nothing.
use Prim.Native.Nat.{ℕ}
use native.Mathlib.Omega.{arith}
use mathlib.Core.Path.{◌≡◌, sym, ap, ◌∙◌}
use mathlib.Core.List.{List, ◌++◌}
use lib.ListN.{length}
use lib.Seq.{sets, length-sets}
use Rattle.plan_written.specs.Written.{bytes_of}
use Rattle.plan_written.proofs.Bytes.{bytes_length}
use Rattle.plan_tree_writer.proofs.Areas.{sets_append}

-- an area keeps its length
sets_keeps : (area bytes : List ℕ) (i : ℕ) {area₁ : List ℕ} → area₁ ≡ sets area i bytes → length area₁ ≡ length area
sets_keeps area bytes i e = ap length e ∙ length-sets area i bytes

pub two_keeps : (area : List ℕ) (i w : ℕ) {area₁ : List ℕ} → area₁ ≡ sets area i (bytes_of 2 w) → length area₁ ≡ length area
two_keeps area i w = sets_keeps area (bytes_of 2 w) i

pub four_keeps : (area : List ℕ) (i w : ℕ) {area₁ : List ℕ} → area₁ ≡ sets area i (bytes_of 4 w) → length area₁ ≡ length area
four_keeps area i w = sets_keeps area (bytes_of 4 w) i

-- twice four, one after the other
pub four_and_four : (area : List ℕ) (h m : ℕ) {area₁ area₂ : List ℕ} → area₁ ≡ sets area 0 (bytes_of 4 h) → area₂ ≡ sets area₁ 4 (bytes_of 4 m)
    → area₂ ≡ sets area 0 (bytes_of 4 h ++ bytes_of 4 m)
four_and_four area h m e f =
    f ∙ ap (λ (l : List ℕ). sets l 4 (bytes_of 4 m)) e ∙ sym (sets_append (bytes_of 4 h) (bytes_of 4 m) area 0 4 (omega (arith, bytes_length 4 h)))

pub eight_keeps : (area : List ℕ) (h m : ℕ) {area₁ : List ℕ} → area₁ ≡ sets area 0 (bytes_of 4 h ++ bytes_of 4 m) → length area₁ ≡ length area
eight_keeps area h m = sets_keeps area (bytes_of 4 h ++ bytes_of 4 m) 0
