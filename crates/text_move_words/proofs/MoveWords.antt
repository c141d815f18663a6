-- The words for a move, by the number of the record's kind. Assumes nothing.
use Prim.Native.Nat.{ℕ, ◌<◌}
use native.Mathlib.Omega.{arith}
use mathlib.Core.Path.{◌≡◌, refl, sym, ap}
use Rattle.format.proofs.Ranges.{by_range}
use Rattle.log_records.specs.Record.{Kind, new}
use Rattle.log_records.specs.Packed.{kind_of}
use Rattle.log_packing.specs.declared.Columns.{Columns}
use Rattle.text_record_lines.specs.Inner.Columns.{record_of}
use Rattle.text_move_words.specs.Words.{record_words_by, record_words}

-- the kind has this number
pub move_is : (c : Columns) {k : ℕ} → c.kind ≡ k → record_words_by (kind_of k) c.object c.field ≡ record_words (record_of c)
unfolding record_words
move_is c e = ap (λ (n : ℕ). record_words_by (kind_of n) c.object c.field) (sym e)

-- none of 2 to 11
abbrev Other : ℕ → Type 0
Other k =
    (k ≡ 2 → ⊥) → (k ≡ 3 → ⊥) → (k ≡ 4 → ⊥) → (k ≡ 5 → ⊥) → (k ≡ 6 → ⊥) → (k ≡ 7 → ⊥) → (k ≡ 8 → ⊥) → (k ≡ 9 → ⊥) → (k ≡ 10 → ⊥) → (k ≡ 11 → ⊥) →
    kind_of k ≡ new

other_kind : (k : ℕ) → k < 16 → Other k
unfolding kind_of
other_kind =
    by_range Other 0 16 ((k : ℕ) → k < 16 → Other k) (λ all k h. all k (omega arith) h)
    (λ a b c d e f g h i j. refl)
    (λ a b c d e f g h i j. refl)
    (λ a b c d e f g h i j. absurd (a refl))
    (λ a b c d e f g h i j. absurd (b refl))
    (λ a b c d e f g h i j. absurd (c refl))
    (λ a b c d e f g h i j. absurd (d refl))
    (λ a b c d e f g h i j. absurd (e refl))
    (λ a b c d e f g h i j. absurd (f refl))
    (λ a b c d e f g h i j. absurd (g refl))
    (λ a b c d e f g h i j. absurd (h refl))
    (λ a b c d e f g h i j. absurd (i refl))
    (λ a b c d e f g h i j. absurd (j refl))
    (λ a b c d e f g h i j. refl)
    (λ a b c d e f g h i j. refl)
    (λ a b c d e f g h i j. refl)
    (λ a b c d e f g h i j. refl)

pub move_new : (c : Columns) → c.kind < 16
    → (c.kind ≡ 2 → ⊥) → (c.kind ≡ 3 → ⊥) → (c.kind ≡ 4 → ⊥) → (c.kind ≡ 5 → ⊥) → (c.kind ≡ 6 → ⊥)
    → (c.kind ≡ 7 → ⊥) → (c.kind ≡ 8 → ⊥) → (c.kind ≡ 9 → ⊥) → (c.kind ≡ 10 → ⊥) → (c.kind ≡ 11 → ⊥)
    → record_words_by new c.object c.field ≡ record_words (record_of c)
unfolding record_words
move_new c less a b d e f g h i j k = ap (λ (n : Kind). record_words_by n c.object c.field) (sym (other_kind c.kind less a b d e f g h i j k))
