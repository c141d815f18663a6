-- Words, numbers and lines as the printing program writes them (document 01, "Shot list"). Assumes nothing.
use Rattle.std.specs.Prelude.{ℕ, zero, suc, ◌+◌, ◌/◌, ◌%◌, cond, List, [], ◌∷◌, ◌++◌, ltb}
use Prim.Native.Char.{code}
use Prim.Native.String as string
use Prim.Native.String.{String}

-- the bytes of a word
unfoldable pub ascii : String → List ℕ
ascii string.[] = []
ascii (string.◌∷◌ c s) = code c ∷ ascii s

-- the decimal digits of a number, in so many steps, one to a digit; 48 is the digit 0
unfoldable pub decimal_by : ℕ → ℕ → List ℕ
decimal_by zero n = []  -- never asked: there is a step for every digit
decimal_by (suc steps) n = cond (ltb n 10) ((48 + n) ∷ []) (decimal_by steps (n / 10) ++ ((48 + n % 10) ∷ []))

-- the decimal digits of a number, no zero in front: it has no more of them than there are steps
unfoldable pub decimal : ℕ → List ℕ
unfolding decimal_by
decimal n = decimal_by (suc n) n

-- columns parted by a space, ended by a line feed
unfoldable pub line : List (List ℕ) → List ℕ
line [] = 10 ∷ []  -- never asked: every line has columns
line (w ∷ []) = w ++ (10 ∷ [])
line (w ∷ (v ∷ ws)) = w ++ (32 ∷ line (v ∷ ws))
