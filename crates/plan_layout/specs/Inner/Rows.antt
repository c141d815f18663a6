-- The texts of the tokens as rows of ten numbers, for inner contracts: no reader of an entry's promise needs it. Assumes nothing.
use Rattle.std.specs.Prelude.{ℕ, List, [], ◌∷◌, ◌++◌, map, length, drop}
use Rattle.plan_notation.specs.Tokens.{texts}

-- the columns of a row behind its first
abbrev pub columns : List ℕ
columns = 1 ∷ 2 ∷ 3 ∷ 4 ∷ 5 ∷ 6 ∷ 7 ∷ 8 ∷ 9 ∷ []

-- how long a text is, its bytes, and up to ten the number of each column
unfoldable pub text_row : List ℕ → List ℕ
text_row bytes = length bytes ∷ bytes ++ drop (length bytes) columns

unfoldable pub text_rows : List (List ℕ)
unfolding text_row texts
text_rows = map text_row texts
