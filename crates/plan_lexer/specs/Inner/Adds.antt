-- A code that is kept behind others, for inner contracts: no reader of an entry's promise needs it. Assumes nothing.
use Rattle.std.specs.Prelude.{ℕ, List, [], ◌∷◌, ◌++◌, Option, None, Some}
use Rattle.plan_lexer.specs.Kept.{Kept}

-- whatever codes were kept before, this one is kept behind them
abbrev pub Adds : List ℕ → ℕ → ℕ → List ℕ → ℕ → Type 0
Adds before n code after r = (area codes : List ℕ) → Kept area codes before n → Kept area (codes ++ (code ∷ [])) after r

-- the same of a code, if there is one
abbrev pub codes_in : Option ℕ → List ℕ
codes_in None = []
codes_in (Some code) = code ∷ []

abbrev pub AddsSome : List ℕ → ℕ → Option ℕ → List ℕ → ℕ → Type 0
AddsSome before n code after r = (area codes : List ℕ) → Kept area codes before n → Kept area (codes ++ codes_in code) after r
