-- Four records that are right follow others. Assumes nothing.
use Prim.Native.Nat.{ℕ, ◌+◌, ◌<◌}
use native.Mathlib.Omega.{arith}
use native.Mathlib.Decide.{ℕ_discrete}
use mathlib.Core.Path.{◌≡◌, ap, ◌∙◌}
use mathlib.Core.Bool.{false, ◌||◌}
use mathlib.Core.List.{List}
use Rattle.format.proofs.RefusalLaws.{neither}
use Rattle.log_records.specs.Refusals.{wrong_record}
use Rattle.log_refusals.specs.Inner.Fours.{four_wrong}

pub four_more : (b : List ℕ) (n : ℕ) → ((k : ℕ) → k < n → wrong_record b k ≡ false) → four_wrong b n ≡ false → (k : ℕ) → k < n + 4 → wrong_record b k ≡ false
four_more b n right e k h = go (ℕ_discrete k n) (ℕ_discrete k (n + 1)) (ℕ_discrete k (n + 2)) (ℕ_discrete k (n + 3))
  where
    three : ((wrong_record b n || wrong_record b (n + 1) || wrong_record b (n + 2)) ≡ false) × (wrong_record b (n + 3) ≡ false)
    three = neither _ _ e

    two : ((wrong_record b n || wrong_record b (n + 1)) ≡ false) × (wrong_record b (n + 2) ≡ false)
    two = neither _ _ three.0

    one : (wrong_record b n ≡ false) × (wrong_record b (n + 1) ≡ false)
    one = neither _ _ two.0

    go : Dec (k ≡ n) → Dec (k ≡ n + 1) → Dec (k ≡ n + 2) → Dec (k ≡ n + 3) → wrong_record b k ≡ false
    go (yes q) w x y = ap (wrong_record b) q ∙ one.0
    go (no p) (yes q) x y = ap (wrong_record b) q ∙ one.1
    go (no p) (no w) (yes q) y = ap (wrong_record b) q ∙ two.1
    go (no p) (no w) (no x) (yes q) = ap (wrong_record b) q ∙ three.1
    go (no p) (no w) (no x) (no y) = right k (omega arith)
