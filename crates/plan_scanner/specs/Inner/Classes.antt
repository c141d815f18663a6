-- What the code needs to know of a byte, as one number, for inner contracts: no reader of an entry's promise needs it. Assumes nothing.
use Rattle.std.specs.Prelude.{ℕ, ◌<◌, ◌≡◌, cond, List, eqb, ltb, length, get_or}
use Rattle.plan_notation.specs.Lexing.{is_blank, digit_of, mark_of}

-- a digit as itself, 1 to 36; `#` as 37; `:` as 38; a blank as 39; any other byte as the token that it is, or as unknown
unfoldable pub class_of : ℕ → ℕ
unfolding is_blank digit_of mark_of
class_of c = cond (ltb 0 (digit_of c)) (digit_of c) (cond (eqb c 35) 37 (cond (eqb c 58) 38 (cond (is_blank c) 39 (mark_of c))))

-- a table of the classes of all bytes
unfoldable pub Classed : List ℕ → Type 0
unfolding class_of
Classed table = (c : ℕ) → c < 256 → get_or table c 0 ≡ class_of c

-- byte i is within the text, and k is its class
pub record Scanned (text : List ℕ) (i k : ℕ) : Type 0 where
  pub inside : i < length text
  pub byte : get_or text i 0 < 256
  pub class : k ≡ class_of (get_or text i 0)
