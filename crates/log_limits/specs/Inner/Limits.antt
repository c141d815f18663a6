-- What a kind allows of its record's last 12 bits: field, value and spare. For inner contracts; no reader of the entries' promise needs it. Assumes nothing.
use Rattle.std.specs.Prelude.{ℕ, Bool, true, false, List, [], ◌∷◌}

-- for each kind, the least number that it allows there in the last record, and before it; 4096 allows none
unfoldable pub least_bits : Bool → List ℕ
least_bits true = 4096 ∷ 0 ∷ 128 ∷ 128 ∷ 128 ∷ 128 ∷ 0 ∷ 0 ∷ 0 ∷ 0 ∷ 128 ∷ 128 ∷ 4096 ∷ 4096 ∷ 4096 ∷ 4096 ∷ []
least_bits false = 4096 ∷ 0 ∷ 128 ∷ 128 ∷ 128 ∷ 128 ∷ 0 ∷ 0 ∷ 0 ∷ 0 ∷ 4096 ∷ 4096 ∷ 4096 ∷ 4096 ∷ 4096 ∷ 4096 ∷ []

-- for each kind, the bits that must be 0; of what is no kind, all
abbrev pub zero_bits : List ℕ
zero_bits = 4095 ∷ 4095 ∷ 3 ∷ 3 ∷ 3 ∷ 3 ∷ 4095 ∷ 4095 ∷ 3199 ∷ 3075 ∷ 127 ∷ 3 ∷ 4095 ∷ 4095 ∷ 4095 ∷ 4095 ∷ []
