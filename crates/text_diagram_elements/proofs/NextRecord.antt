-- The lanes and the rows of a log, one record more at a time, and where the mark of a record stands. Assumes nothing.
use Prim.Native.Nat.{ℕ, suc, ◌+◌, ◌/◌, ◌<◌, ◌≤◌, max}
use native.Mathlib.Nat.{add-zero}
use native.Mathlib.Omega.{arith}
use mathlib.Core.Path.{◌≡◌, refl, sym, ap, ap₂, ◌∙◌}
use mathlib.Core.List.{List, [], ◌∷◌, ◌++◌, append-nil, append_assoc}
use mathlib.Core.Option.{Option}
use lib.ListN.{length, take}
use lib.Seq.{length-take-le, take_all}
use Rattle.log_records.specs.Record.{Record}
use Rattle.log_records.specs.Packed.{record_at, record_count, log_of}
use Rattle.log_records.proofs.RoundTrip.{length_log, log_element}
use Rattle.log_packing.specs.declared.Columns.{Columns}
use Rattle.log_packing.specs.Inner.Columns.{ReadAt}
use Rattle.text_record_lines.specs.Inner.Columns.{record_of}
use Rattle.text_record_lines.proofs.FirstRecords.{first_more, columns_are}
use Rattle.text_diagram_elements.specs.Diagram.{lane_count, lane_x, row_y, thread_of, mark_x, segment, row_text, row_texts, between}

-- ---- one more at the end of a list

lanes_more : (L : List Record) (r : Record) → lane_count (L ++ (r ∷ [])) ≡ max (lane_count L) (suc r.thread)
unfolding lane_count
lanes_more [] r = refl
lanes_more (x ∷ L) r = omega (arith, lanes_more L r)

rows_more : (lanes : ℕ) (race : Option (ℕ × ℕ)) (i : ℕ) (L : List Record) (r : Record)
    → row_texts lanes race i (L ++ (r ∷ [])) ≡ row_texts lanes race i L ++ row_text lanes race (i + length L) r
unfolding row_texts
rows_more lanes race i [] r = append-nil (row_text lanes race i r) ∙ ap (λ (k : ℕ). row_text lanes race k r) (sym (add-zero i))
rows_more lanes race i (x ∷ L) r =
    ap (λ (t : List ℕ). row_text lanes race i x ++ t)
    (rows_more lanes race (suc i) L r
    ∙ ap (λ (k : ℕ). row_texts lanes race (suc i) L ++ row_text lanes race k r) (let e : suc i + length L ≡ i + suc (length L) = omega arith in e))
    ∙ sym (append_assoc (row_text lanes race i x) (row_texts lanes race (suc i) L) (row_text lanes race (i + suc (length L)) r))

-- ---- the records of a log

pub all_taken : (b : List ℕ) (n : ℕ) → length b / 3 ≤ n → take n (log_of b) ≡ log_of b
all_taken b n h = take_all n (log_of b) (omega (arith, length_log b))

module _ (b : List ℕ) (i : ℕ) (inside : i < length b / 3) where
  taken_length : 0 + length (take i (log_of b)) ≡ i
  taken_length = omega (arith, length-take-le i (log_of b) (omega (arith, length_log b)))

  pub lanes_next : lane_count (take (suc i) (log_of b)) ≡ max (lane_count (take i (log_of b))) (suc (record_at b i).thread)
  lanes_next = ap lane_count (first_more b i inside) ∙ lanes_more (take i (log_of b)) (record_at b i)

  pub rows_next : (lanes : ℕ) (race : Option (ℕ × ℕ)) (r : Columns) → ReadAt b i r
      → row_texts lanes race 0 (take i (log_of b)) ++ row_text lanes race i (record_of r) ≡ row_texts lanes race 0 (take (suc i) (log_of b))
  rows_next lanes race r h =
      ap (λ (x : Record). row_texts lanes race 0 (take i (log_of b)) ++ row_text lanes race i x) (columns_are b i r h)
      ∙ sym (ap (row_texts lanes race 0) (first_more b i inside)
      ∙ rows_more lanes race 0 (take i (log_of b)) (record_at b i)
      ∙ ap (λ (n : ℕ). row_texts lanes race 0 (take i (log_of b)) ++ row_text lanes race n (record_at b i)) taken_length)

  -- a mark stands on the lane of its record's thread
  pub mark_is : (r : Columns) → ReadAt b i r → lane_x r.thread ≡ mark_x (log_of b) i
  unfolding mark_x record_count
  mark_is r h = ap (λ (t : ℕ). lane_x t) (h.thread_is ∙ ap (λ (x : Option Record). thread_of x) (sym (log_element b i inside)))

-- a line between the marks of two records
pub between_is : (class b : List ℕ) (i j : ℕ) (r s : Columns) → i < length b / 3 → j < length b / 3 → ReadAt b i r → ReadAt b j s
    → segment class (lane_x r.thread) (row_y i) (lane_x s.thread) (row_y j) ≡ between class (log_of b) i j
unfolding between
between_is class b i j r s p q h k = ap₂ (λ (x u : ℕ). segment class x (row_y i) u (row_y j)) (mark_is b i p r h) (mark_is b j q s k)
