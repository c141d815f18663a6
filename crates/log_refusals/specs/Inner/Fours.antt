-- Records that are right, and four in a row of which one is not. For inner contracts; no reader of the entries' promise needs it. Assumes nothing.
use Rattle.std.specs.Prelude.{ℕ, ◌+◌, ◌<◌, ◌≤◌, ◌≡◌, Bool, false, ◌||◌, List}
use Rattle.log_records.specs.Packed.{record_count}
use Rattle.log_records.specs.Refusals.{wrong_record}

-- refusal 12 at one of four records in a row
abbrev pub four_wrong : List ℕ → ℕ → Bool
four_wrong b i = wrong_record b i || wrong_record b (i + 1) || wrong_record b (i + 2) || wrong_record b (i + 3)

-- the first n records are all right
pub record RightTo (b : List ℕ) (n : ℕ) : Type 0 where
  pub within : n ≤ record_count b
  pub right : (k : ℕ) → k < n → wrong_record b k ≡ false
