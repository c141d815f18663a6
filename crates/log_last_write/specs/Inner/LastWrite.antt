-- The last write of a field before a record of a log, for inner contracts: no reader of the entry's promise needs it. Assumes nothing.
use Rattle.std.specs.Prelude.{ℕ, ◌/◌, ◌<◌, List, length}
use Rattle.log_records.specs.Packed.{record_at, log_of}
use Rattle.log_order.specs.Chains.{LastWrite}

-- record i is the last write, before record j, of the field that record j accesses
abbrev pub IsLast : List ℕ → ℕ → ℕ → Type 0
IsLast b j i = LastWrite (log_of b) j (record_at b j).object (record_at b j).field i

-- there is one
pub record HasLast (b : List ℕ) (j : ℕ) : Type 0 where
  pub inside : j < length b / 3
  pub index : ℕ
  pub is_last : IsLast b j index
