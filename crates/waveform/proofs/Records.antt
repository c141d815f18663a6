-- The end of a line after the first records of a log, one record more at a time. Assumes nothing.
use Prim.Native.Nat.{ℕ, suc, ◌<◌, ◌/◌}
use mathlib.Core.Path.{◌≡◌}
use mathlib.Core.List.{List, [], ◌∷◌, ◌++◌}
use lib.ListN.{length, take}
use Rattle.log_records.specs.Packed.{log_of}
use Rattle.log_packing.specs.declared.Columns.{Columns}
use Rattle.log_packing.specs.Inner.Columns.{ReadAt}
use Rattle.text_record_lines.specs.Inner.Columns.{record_of}
use Rattle.text_record_lines.proofs.FirstRecords.{first_more, columns_are}
use Rattle.text_sample_lines.specs.Inner.LineEnds.{end_of}

-- the end after the record
pub end_next : (b : List ℕ) (i : ℕ) → i < length b / 3 → (r : Columns) (x : List ℕ) → ReadAt b i r → x ≡ end_of (take i (log_of b) ++ (record_of r ∷ []))
    → x ≡ end_of (take (suc i) (log_of b))
end_next b i inside r x h e = rw (first_more b i inside, ← columns_are b i r h) e
