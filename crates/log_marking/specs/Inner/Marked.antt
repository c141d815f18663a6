-- The marks of a log's moves, for inner contracts: no reader of the entry's promise needs it. Assumes nothing.
use Rattle.std.specs.Prelude.{ℕ, ◌/◌, ◌<◌, ◌≤◌, ◌≡◌, Bool, false, List, ◌⊎◌, ◌↔◌, T, length, get_or}
use Rattle.format.specs.Version.{v1}
use Rattle.log_records.specs.Packed.{log_of}
use Rattle.log_order.specs.Chains.{Chain}

-- flag k is true exactly where move k of the log b has a chain to move j or to move i
abbrev pub MarkedIn : List ℕ → ℕ → ℕ → List Bool → Type 0
MarkedIn b j i kept = (k : ℕ) → k < length b / 3 → T (get_or kept k false) ↔ (Chain v1 (log_of b) k j ⊎ Chain v1 (log_of b) k i)

-- the flags past the log's moves stay
abbrev pub SameBeyond : List ℕ → List Bool → List Bool → Type 0
SameBeyond b before after = (k : ℕ) → length b / 3 ≤ k → get_or after k false ≡ get_or before k false
