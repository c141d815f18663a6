-- The end of a line, which the code keeps from record to record, and the line before it, for inner contracts. No reader of the entry's promise needs it.
-- Assumes nothing.
use Rattle.std.specs.Prelude.{ℕ, zero, suc, ◌+◌, ◌-◌, ◌*◌, ◌%◌, ◌≡◌, List, [], ◌∷◌, ◌++◌}
use Rattle.log_records.specs.Record.{Record}
use Rattle.text.specs.Text.{decimal}
use Rattle.text.specs.Inner.Wrote.{Wrote}
use Rattle.text_sample_lines.specs.DataFile.{digital}

-- the first n digital values after these records, each behind a comma
unfoldable pub values_to : ℕ → List Record → List ℕ
unfolding digital
values_to zero L = []
values_to (suc n) L = values_to n L ++ (44 ∷ (48 + digital n L) ∷ [])

-- the end of a line after these records: 32 digital values, carriage return and line feed
unfoldable pub end_of : List Record → List ℕ
unfolding values_to
end_of L = values_to 32 L ++ (13 ∷ 10 ∷ [])

-- the line of sample number n that ends so
unfoldable pub line_of : ℕ → List ℕ → List ℕ
unfolding decimal
line_of n end = decimal n ++ ((44 ∷ decimal ((n - 1) * 1000)) ++ end)

-- the last decimal digit of a number
abbrev pub last_digit : ℕ → List ℕ
last_digit n = (48 + n % 10) ∷ []

-- after the records L, the line of one record more was added to an area, and the end of a line is that after it
pub record Extended (L : List Record) (r : Record) (before : List ℕ) (at n : ℕ) (after end : List ℕ) (next : ℕ) : Type 0 where
  pub ends : end ≡ end_of (L ++ (r ∷ []))
  pub wrote : Wrote before at (line_of n (end_of (L ++ (r ∷ [])))) after next
