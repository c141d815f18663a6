-- Lengths of files by the count of records, for inner contracts. No reader of the entry's promise needs it. Assumes nothing.
use Rattle.std.specs.Prelude.{ℕ, zero, suc, ◌+◌, ◌-◌, ◌*◌}

-- how many digits the numbers 1 to n have together, for n below 10,000
unfoldable pub digits_to : ℕ → ℕ
digits_to n = n + (n - 9) + (n - 99) + (n - 999)

-- the length of the file of n records
unfoldable pub length_for : ℕ → ℕ
unfolding digits_to
length_for zero = 1
length_for (suc n) = 2 + 67 * suc n + digits_to (suc n) + 3 * n + digits_to n
