-- Codes of tokens alone, for inner contracts: no reader of an entry's promise needs it. Assumes nothing.
use Rattle.std.specs.Prelude.{ℕ, ◌<◌, List, get_or}
use Rattle.plan_notation.specs.Tokens.{text_end}

-- every code is a token's, none is the end of a text or unknown
abbrev pub Known : List ℕ → Type 0
Known ts = (k : ℕ) → get_or ts k 0 < text_end
