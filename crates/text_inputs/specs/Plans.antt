-- A plan as it is given to the program: text or packed bytes. Assumes nothing.
use Rattle.std.specs.Prelude.{ℕ, Bool, ◌||◌, List, ltb, get_or}
use Rattle.plan_notation.specs.Lexing.{is_blank}

-- text, where the first byte is white space or above 32 (docs/DECISIONS.md); no packed plan that passes begins so
unfoldable pub is_text : List ℕ → Bool
unfolding is_blank
is_text bytes = is_blank (get_or bytes 0 0) || ltb 32 (get_or bytes 0 0)
