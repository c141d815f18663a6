-- How long the lines of a log are. Assumes nothing.
use Prim.Native.Nat.{ℕ, zero, suc, ◌+◌, ◌*◌, ◌/◌, ◌<◌, ◌≤◌}
use native.Mathlib.Omega.{arith}
use mathlib.Core.List.{List}
use lib.ListN.{length, length-append}
use Rattle.format.proofs.BitLaws.{bits_below}
use Rattle.log_records.specs.Packed.{record_at, records_from, record_count, log_of}
use Rattle.text_record_lines.specs.Lines.{record_line, record_lines}
use Rattle.text_record_lines.proofs.LineParts.{record_short}

-- none is over 28 bytes
line_short : (b : List ℕ) (i : ℕ) → i < 4096 → length (record_line i (record_at b i)) ≤ 28
unfolding record_at
line_short b i few =
    record_short i (record_at b i) few (bits_below b (24 * i + 4) 3) (bits_below b (24 * i + 7) 5) (bits_below b (24 * i + 12) 5)
    (bits_below b (24 * i + 17) 5)

lines_short : (b : List ℕ) (i n : ℕ) → i + n ≤ 4096 → length (record_lines i (records_from b i n)) ≤ 28 * n
unfolding record_lines records_from
lines_short b i zero h = omega arith
lines_short b i (suc n) h =
    omega (
      arith,
      length-append (record_line i (record_at b i)) (record_lines (suc i) (records_from b (suc i) n)),
      line_short b i (omega arith),
      lines_short
          b (suc i) n (omega arith),
    )

pub log_short : (b : List ℕ) → length b ≤ 12288 → length (record_lines 0 (log_of b)) ≤ 114688
unfolding log_of record_count
log_short b h = omega (arith, lines_short b 0 (length b / 3) (omega arith))
