-- The number that an entry returns, by its answer. Assumes nothing.
use Rattle.std.specs.Prelude.{ℕ, ◌+◌, ◌*◌, ◌^◌, min}
use Rattle.std.proofs.Math.Option.{Option, some, none}
use Rattle.format.specs.Refusal.{Refusal}
use Rattle.answers.specs.Answer as tool

-- ---- the convention of every entry: a number of 64 bits, whose upper half says which kind of answer it is

-- upper half 0: an answer, with its value in the lower half, 0 where it has none
abbrev pub value_number : ℕ → ℕ
value_number value = value

-- upper half 1: the entry's other answer, with its value in the lower half
abbrev pub other_number : ℕ → ℕ
other_number value = 2 ^ 32 + value

-- upper half 2: a refusal, with number * 65536 + place in the lower half
abbrev pub refusal_number : Refusal → ℕ
refusal_number r = 2 * 2 ^ 32 + (r.number * 65536 + r.place)

-- ---- by it

-- check: 0 for a plan that passes
unfoldable pub check_number : Option Refusal → ℕ
check_number none = value_number 0
check_number (some r) = refusal_number r

-- a tool of document 02: its value
unfoldable pub answer_number : tool.Answer → ℕ
answer_number (tool.Answer.value n) = value_number n
answer_number (tool.Answer.refused r) = refusal_number r

-- "line * 65536 + column", each 65,535 where it is more
abbrev pub place_number : ℕ → ℕ → ℕ
place_number line column = min line 65535 * 65536 + min column 65535
