-- Where a token is in a text. Assumes nothing.
use Rattle.std.specs.Prelude.{ℕ, List, length, get_or, take}
use Rattle.plan_notation.specs.Tokens.{text_end}
use Rattle.plan_notation.specs.Lexing.{Token, token, tokens_of, Place, place_after}

-- the place of a token by its number, or another where there are fewer
unfoldable pub place_in : List Token → ℕ → ℕ → ℕ
place_in ts n else = (get_or ts n (token text_end else)).place

-- the line and the column of token number n, or those of the text's end where there are fewer
unfoldable pub place_of : List ℕ → ℕ → Place
unfolding place_in tokens_of place_after
place_of text n = place_after (take (place_in (tokens_of text) n (length text)) text)
