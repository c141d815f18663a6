-- Where comments and names end, by the tokens from there on, for inner contracts: no reader of an entry's promise needs it. Assumes nothing.
use Rattle.std.specs.Prelude.{ℕ, ◌≤◌, ◌≡◌, List, ◌∷◌, length, drop}
use Rattle.plan_notation.specs.Lexing.{Token, token, Begun, nothing, comment, name, name_of, tokens_from}

-- the tokens of a text from byte i on, where this has begun before it
abbrev pub onward : Begun → List ℕ → ℕ → List Token
onward b text i = tokens_from b i (drop i text)

-- a comment that goes on at `from` has ended before byte r
pub record CommentEnds (text : List ℕ) (from r : ℕ) : Type 0 where
  pub behind : from ≤ r
  pub inside : r ≤ length text
  pub same : onward comment text from ≡ onward nothing text r

-- a name that goes on at `from`, with its number so far, has ended before byte r, with its number v
pub record NameEnds (text : List ℕ) (from first v r : ℕ) : Type 0 where
  pub behind : from ≤ r
  pub inside : r ≤ length text
  pub same : (s : ℕ) → onward (name s first) text from ≡ token (name_of v) s ∷ onward nothing text r
