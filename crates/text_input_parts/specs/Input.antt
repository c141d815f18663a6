-- The parts of what the printing program reads (document 01, "Shot list"). Assumes nothing.
use Rattle.std.specs.Prelude.{ℕ, ◌+◌, Bool, ◌||◌, List, ltb, length, take, drop}
use Rattle.format.specs.Bits.{bits_at}

-- "a 16-bit plan length (high byte first)"
unfoldable pub length_read : List ℕ → ℕ
unfolding bits_at
length_read input = bits_at input 0 16

-- "the plan"
unfoldable pub plan_read : List ℕ → List ℕ
unfolding length_read
plan_read input = take (length_read input) (drop 2 input)

-- "then the schedule": all that is left
unfoldable pub schedule_read : List ℕ → List ℕ
unfolding length_read
schedule_read input = drop (2 + length_read input) input

-- "Input that ends before the plan does, or a length over 5,192, is refusal 1."
unfoldable pub cut_short : List ℕ → Bool
unfolding length_read
cut_short input = ltb (length input) (2 + length_read input) || ltb 5192 (length_read input)
