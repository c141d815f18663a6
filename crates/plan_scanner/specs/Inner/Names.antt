-- The places at which names are looked for, for inner contracts: no reader of an entry's promise needs it. Assumes nothing.
use Rattle.std.specs.Prelude.{ℕ, zero, suc, ◌*◌, ◌/◌, ◌%◌, ◌≡◌, cond, eqb}
use Rattle.plan_notation.specs.Lexing.{value_of, name_of}

-- the place of a name by its number: one of 128
unfoldable pub place_of : ℕ → ℕ
place_of v = v % 4294967296 * 2747185 / 65536 % 128

-- the number of the name at place k, of the first n tokens; 0, which no name has, where there is none
unfoldable pub number_at : ℕ → ℕ → ℕ
unfolding place_of value_of
number_at zero k = 0
number_at (suc n) k = cond (eqb (place_of (value_of n)) k) (value_of n) (number_at n k)

-- what is kept of place k: the number of the name there, and in the last eight bits its token
abbrev pub Entry : ℕ → ℕ → Type 0
Entry k e = (e / 256 ≡ number_at 62 k) × (name_of (e / 256) ≡ e % 256)
