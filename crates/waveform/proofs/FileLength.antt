-- The length of a data file depends on the count of records alone. Assumes nothing.
use Prim.Native.Nat.{ℕ, zero, suc, ◌+◌, ◌-◌, ◌*◌, ◌/◌, ◌<◌, ◌≤◌}
use native.Mathlib.Omega.{arith}
use native.Mathlib.Decide.{dec_lt}
use mathlib.Core.Path.{◌≡◌, refl, ap, ◌∙◌}
use mathlib.Core.List.{List, [], ◌∷◌}
use lib.ListN.{length, length-append}
use Rattle.log_records.specs.Record.{Record}
use Rattle.log_records.specs.Packed.{record_count, log_of}
use Rattle.log_records.proofs.RoundTrip.{count_log}
use Rattle.text.specs.Text.{decimal}
use Rattle.text_sample_lines.specs.DataFile.{sample_line, sample_lines, data_file}
use Rattle.text_sample_lines.proofs.Digits.{one_length, more_length, thousand_length}
use Rattle.text_sample_lines.proofs.LineParts.{sample_length}
use Rattle.waveform.specs.Comtrade.{file_of}
use Rattle.waveform.specs.Inner.Lengths.{digits_to, length_for}

-- ---- how many digits a number has

two_length : (n : ℕ) → 10 ≤ n → n < 100 → length (decimal n) ≡ 2
two_length n h k = omega (arith, more_length n h, one_length (n / 10) (omega arith))

three_length : (n : ℕ) → 100 ≤ n → n < 1000 → length (decimal n) ≡ 3
three_length n h k = omega (arith, more_length n (omega arith), two_length (n / 10) (omega arith) (omega arith))

four_length : (n : ℕ) → 1000 ≤ n → n < 10000 → length (decimal n) ≡ 4
four_length n h k = omega (arith, more_length n (omega arith), three_length (n / 10) (omega arith) (omega arith))

digits_more : (n : ℕ) → n < 9999 → length (decimal (suc n)) + digits_to n ≡ digits_to (suc n)
unfolding digits_to
digits_more n h = go (dec_lt (suc n) 10) (dec_lt (suc n) 100) (dec_lt (suc n) 1000)
  where
    go : Dec (suc n < 10) → Dec (suc n < 100) → Dec (suc n < 1000) → length (decimal (suc n)) + digits_to n ≡ digits_to (suc n)
    go (yes a) b c = omega (arith, one_length (suc n) a)
    go (no a) (yes b) c = omega (arith, two_length (suc n) (omega arith) b)
    go (no a) (no b) (yes c) = omega (arith, three_length (suc n) (omega arith) c)
    go (no a) (no b) (no c) = omega (arith, four_length (suc n) (omega arith) (omega arith))

-- ---- lines

lines_more : (L : List Record) (n : ℕ) → length (sample_lines L (suc n)) ≡ length (sample_lines L n) + length (decimal (suc n)) + length (decimal (n * 1000)) + 67
unfolding sample_lines
lines_more L n = omega (
  arith,
  length-append (sample_lines L n) (sample_line L (suc n)),
  sample_length L (suc n),
  ap (λ (k : ℕ). length (decimal (k * 1000))) (let e : suc n - 1 ≡ n = omega arith in e),
)

lines_length : (L : List Record) (n : ℕ) → n < 9999 → suc (length (sample_lines L (suc n))) ≡ length_for (suc n)
unfolding sample_lines length_for digits_to
lines_length L zero h = omega (arith, lines_more L 0, one_length 1 (omega arith), one_length 0 (omega arith))
lines_length L (suc n) h =
    omega (
      arith,
      lines_length L n (omega arith),
      lines_more L (suc n),
      digits_more (suc n) h,
      digits_more n (omega arith),
      thousand_length (suc n) (omega arith),
    )

-- the lines of some records are no longer than those of more
pub lines_within : (L : List Record) (m n : ℕ) → m ≤ n → length (sample_lines L m) ≤ length (sample_lines L n)
lines_within L m zero h = let e : m ≡ 0 = omega arith in omega (arith, ap (λ (k : ℕ). length (sample_lines L k)) e)
lines_within L m (suc n) h = go (dec_lt m (suc n)) (lines_within L m n)
  where
    go : Dec (m < suc n) → (m ≤ n → length (sample_lines L m) ≤ length (sample_lines L n)) → length (sample_lines L m) ≤ length (sample_lines L (suc n))
    go (yes l) below = omega (arith, below (omega arith), lines_more L n)
    go (no l) below = let e : m ≡ suc n = omega arith in omega (arith, ap (λ (k : ℕ). length (sample_lines L k)) e)

-- ---- files

end_length : (L : List Record) → length (data_file L) ≡ suc (length (sample_lines L (length L)))
unfolding data_file
end_length L = omega (arith, length-append (sample_lines L (length L)) (0x1A ∷ []))

by_count : (L : List Record) (n : ℕ) → length L ≡ n → n < 10000 → length (data_file L) ≡ length_for n
unfolding sample_lines length_for
by_count L zero e h = end_length L ∙ ap (λ (k : ℕ). suc (length (sample_lines L k))) e
by_count L (suc n) e h = end_length L ∙ ap (λ (k : ℕ). suc (length (sample_lines L k))) e ∙ lines_length L n (omega arith)

pub length_some : (n : ℕ) → 0 < n → length_for n ≡ 2 + 67 * n + digits_to n + 3 * (n - 1) + digits_to (n - 1)
unfolding length_for
length_some zero h = absurd (omega arith)
length_some (suc n) h = let e : suc n - 1 ≡ n = omega arith in rw e refl

most : (n : ℕ) → n ≤ 4096 → length_for n ≤ 317269
unfolding length_for digits_to
most zero h = omega arith
most (suc n) h = omega arith

module _ (log : List ℕ) (few : length log ≤ 12288) where
  few_records : record_count log ≤ 4096
  unfolding record_count
  few_records = omega arith

  -- the length of the file of a log in bytes
  pub file_length : length (file_of log) ≡ length_for (record_count log)
  unfolding file_of
  file_length = by_count (log_of log) (record_count log) (count_log log) (omega (arith, few_records))

  -- no file is longer than that of 4,096 records
  pub file_most : length (file_of log) ≤ 317269
  file_most = omega (arith, file_length, most (record_count log) few_records)

-- the largest file: 4,096 records
pub largest : length_for 4096 ≡ 317269
unfolding length_for
largest = refl
