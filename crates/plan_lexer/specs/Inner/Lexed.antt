-- What begins at a byte, for inner contracts: no reader of an entry's promise needs it. Assumes nothing.
use Rattle.std.specs.Prelude.{ℕ, ◌≤◌, ◌<◌, ◌≡◌, List, ◌∷◌, Option, None, Some, length}
use Rattle.plan_notation.specs.Lexing.{Token, token, nothing}
use Rattle.plan_scanner.specs.Inner.Extents.{onward}

-- a token at byte i, if there is one, and those behind it
abbrev pub and_then : Option ℕ → ℕ → List Token → List Token
and_then None i ts = ts
and_then (Some code) i ts = token code i ∷ ts

-- what begins with byte i has ended before byte r, and is this token or none
pub record Lexed (text : List ℕ) (i : ℕ) (code : Option ℕ) (r : ℕ) : Type 0 where
  pub behind : i < r
  pub inside : r ≤ length text
  pub same : onward nothing text i ≡ and_then code i (onward nothing text r)
