-- A word and a number of a sentence. Assumes nothing.
use Rattle.std.specs.Prelude.{ℕ, List, ◌++◌}
use Prim.Native.String.{String}
use Rattle.text.specs.Text.{ascii, decimal}

-- a word, with the space at its end if there is one, and the number behind it
unfoldable pub phrase : String → ℕ → List ℕ
unfolding ascii decimal
phrase word n = ascii word ++ decimal n
