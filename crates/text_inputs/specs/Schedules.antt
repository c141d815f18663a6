-- A schedule as it is given to the program: the digits of its picks, or packed bytes; and a schedule as digits. Assumes nothing.
use Rattle.std.specs.Prelude.{ℕ, ◌+◌, ◌-◌, Bool, true, cond, ◌&&◌, ◌||◌, List, [], ◌∷◌, ◌++◌, leb, ltb}
use Rattle.plan_notation.specs.Lexing.{is_blank}

-- the digits 0 to 9
unfoldable pub is_digit : ℕ → Bool
is_digit c = leb 48 c && leb c 57

-- every byte passes a test
unfoldable pub every : (ℕ → Bool) → List ℕ → Bool
every f [] = true
every f (c ∷ cs) = f c && every f cs

-- text, where every byte is a digit or white space (docs/DECISIONS.md); no packed pick of 0 to 7 is either
unfoldable pub is_digits : List ℕ → Bool
unfolding every is_digit is_blank
is_digits bytes = every (λ c. is_digit c || is_blank c) bytes

-- the pick of a byte, if it is a digit
unfoldable pub pick_of : ℕ → List ℕ
unfolding is_digit
pick_of c = cond (is_digit c) ((c - 48) ∷ []) []

-- the picks of a text: its digits
unfoldable pub digit_picks : List ℕ → List ℕ
unfolding pick_of
digit_picks [] = []
digit_picks (c ∷ cs) = pick_of c ++ digit_picks cs

-- the picks of a schedule as it is given
unfoldable pub picks_of : List ℕ → List ℕ
unfolding is_digits digit_picks
picks_of bytes = cond (is_digits bytes) (digit_picks bytes) bytes

-- a pick as its digit; one that has none, as a question mark
unfoldable pub digit_of : ℕ → ℕ
digit_of p = cond (ltb p 10) (48 + p) 63

unfoldable pub digits_of : List ℕ → List ℕ
unfolding digit_of
digits_of [] = []
digits_of (p ∷ ps) = digit_of p ∷ digits_of ps

-- a schedule as a line of digits
unfoldable pub digit_line : List ℕ → List ℕ
unfolding digits_of
digit_line picks = digits_of picks ++ (10 ∷ [])
