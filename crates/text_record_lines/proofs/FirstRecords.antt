-- The records of a log as the code goes over them: the first ones, one more at a time, and each as its columns. Assumes nothing.
use Prim.Native.Nat.{ℕ, zero, suc, ◌/◌, ◌<◌, ◌≤◌}
use native.Mathlib.Omega.{arith}
use mathlib.Core.Path.{◌≡◌, ap, ◌∙◌}
use mathlib.Core.Bool.{true≢false}
use mathlib.Core.List.{List, [], ◌∷◌, ◌++◌}
use mathlib.Core.Option.{some}
use lib.ListN.{length, get_or, get_elem?, take}
use lib.Seq.{take-suc}
use Rattle.log_records.specs.Record.{Record}
use Rattle.log_records.specs.Packed.{record_at, record_count, log_of}
use Rattle.log_records.proofs.RoundTrip.{length_log, log_element}
use Rattle.log_packing.specs.declared.Columns.{Columns}
use Rattle.log_packing.specs.Inner.Columns.{Narrow, ReadAt}
use Rattle.text_record_lines.specs.Lines.{record_line}
use Rattle.text_record_lines.specs.Inner.Columns.{record_of}
use Rattle.text_record_lines.proofs.LineParts.{record_short}

found : (L : List Record) (i : ℕ) (r d : Record) → get_elem? L i ≡ some r → get_or L i d ≡ r
found [] i r d h = absurd (true≢false cc)
found (x ∷ L) zero r d h = cc
found (x ∷ L) (suc i) r d h = found L i r d h

pub first_more : (b : List ℕ) (i : ℕ) → i < length b / 3 → take (suc i) (log_of b) ≡ take i (log_of b) ++ (record_at b i ∷ [])
unfolding record_count
first_more b i inside =
    take-suc (log_of b) i (record_at b i) (omega (arith, length_log b))
    ∙ ap (λ (r : Record). take i (log_of b) ++ (r ∷ [])) (found (log_of b) i (record_at b i) (record_at b i) (log_element b i inside))

pub columns_are : (b : List ℕ) (i : ℕ) (r : Columns) → ReadAt b i r → record_of r ≡ record_at b i
unfolding record_at
columns_are b i r h = simp (h.kind_is, h.thread_is, h.object_is, h.field_is, h.value_is)

-- no line is over 28 bytes
pub line_short : (i : ℕ) (r : Columns) → i < 4096 → Narrow r → length (record_line i (record_of r)) ≤ 28
line_short i r few n = record_short i (record_of r) few n.thread_below n.object_below n.field_below n.value_below
