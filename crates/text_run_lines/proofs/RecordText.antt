-- The lines of the records of a log: one more record is one more line. Assumes nothing.
use Prim.Native.Nat.{ℕ, zero, suc, ◌+◌, ◌*◌, ◌<◌, ◌≤◌}
use native.Mathlib.Nat.{add-zero, zero-add}
use native.Mathlib.Omega.{arith}
use mathlib.Core.Path.{◌≡◌, refl, sym, ap, ◌∙◌}
use mathlib.Core.List.{List, [], ◌∷◌, ◌++◌, append-nil, append_assoc}
use lib.ListN.{length}
use Rattle.format.proofs.BitLaws.{bits_below}
use Rattle.log_records.specs.Record.{Record}
use Rattle.log_records.specs.Packed.{record_at, records_from}
use Rattle.log_packing.specs.declared.Columns.{Columns}
use Rattle.log_packing.specs.Inner.Columns.{ReadAt}
use Rattle.text_record_lines.specs.Lines.{record_line, record_lines}
use Rattle.text_record_lines.specs.Inner.Columns.{record_of}
use Rattle.text_record_lines.proofs.LineParts.{record_short}

records_more : (b : List ℕ) (i n : ℕ) → records_from b i (suc n) ≡ records_from b i n ++ (record_at b (i + n) ∷ [])
unfolding records_from
records_more b i zero = ap (λ (k : ℕ). record_at b k ∷ []) (sym (add-zero i))
records_more b i (suc n) =
    ap (λ (L : List Record). record_at b i ∷ L)
    (records_more b (suc i) n ∙ ap (λ (k : ℕ). records_from b (suc i) n ++ (record_at b k ∷ [])) (let e : suc i + n ≡ i + suc n = omega arith in e))

records_count : (b : List ℕ) (i n : ℕ) → length (records_from b i n) ≡ n
unfolding records_from
records_count b i zero = refl
records_count b i (suc n) = ap suc (records_count b (suc i) n)

lines_more : (i : ℕ) (L : List Record) (r : Record) → record_lines i (L ++ (r ∷ [])) ≡ record_lines i L ++ record_line (i + length L) r
unfolding record_lines
lines_more i [] r = append-nil (record_line i r) ∙ ap (λ (k : ℕ). record_line k r) (sym (add-zero i))
lines_more i (x ∷ L) r =
    ap (λ (t : List ℕ). record_line i x ++ t)
    (lines_more (suc i) L r ∙ ap (λ (k : ℕ). record_lines (suc i) L ++ record_line k r) (let e : suc i + length L ≡ i + suc (length L) = omega arith in e))
    ∙ sym (append_assoc (record_line i x) (record_lines (suc i) L) (record_line (i + suc (length L)) r))

pub text_more : (b : List ℕ) (n : ℕ) → record_lines 0 (records_from b 0 (suc n)) ≡ record_lines 0 (records_from b 0 n) ++ record_line n (record_at b n)
text_more b n =
    ap (record_lines 0) (records_more b 0 n)
    ∙ lines_more 0 (records_from b 0 n) (record_at b (0 + n))
    ∙ simp (records_count b 0 n, zero-add)

-- ---- a record as the code takes it apart

pub columns_are : (b : List ℕ) (i : ℕ) (r : Columns) → ReadAt b i r → record_of r ≡ record_at b i
unfolding record_at
columns_are b i r h = simp (h.kind_is, h.thread_is, h.object_is, h.field_is, h.value_is)

value_below : (b : List ℕ) (i : ℕ) → (record_at b i).value < 32
unfolding record_at
value_below b i = bits_below b (24 * i + 17) 5

pub line_short : (b : List ℕ) (i : ℕ) (r : Columns) → i < 4096 → ReadAt b i r → length (record_line i (record_of r)) ≤ 28
line_short b i r few h =
    record_short i (record_of r) few h.narrow.thread_below h.narrow.object_below h.narrow.field_below h.narrow.value_below
