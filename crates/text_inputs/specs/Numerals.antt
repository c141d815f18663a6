-- A number as it is given to the program: decimal digits. Assumes nothing.
use Rattle.std.specs.Prelude.{ℕ, ◌+◌, ◌-◌, ◌*◌, Bool, cond, ◌&&◌, List, [], ◌∷◌, ltb, length}
use Rattle.text_inputs.specs.Schedules.{every, is_digit}

-- one digit or more, and nothing else
unfoldable pub is_numeral : List ℕ → Bool
unfolding every is_digit
is_numeral bytes = ltb 0 (length bytes) && every is_digit bytes

-- the number before, with one digit more; from 100,000 on further digits are left out, since no number that is asked for is so large
unfoldable pub with_digit : ℕ → ℕ → ℕ
with_digit v c = cond (ltb v 100000) (v * 10 + (c - 48)) v

-- the number of some digits behind those of another
unfoldable pub number_from : ℕ → List ℕ → ℕ
unfolding with_digit
number_from v [] = v
number_from v (c ∷ cs) = number_from (with_digit v c) cs

-- the number of some digits
unfoldable pub number_of : List ℕ → ℕ
unfolding number_from
number_of bytes = number_from 0 bytes
