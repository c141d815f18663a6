-- Numbers and values that fit a returned number, as those of every answer do. For inner contracts; no reader of the entries' promises needs it.
-- Assumes nothing.
use Rattle.std.specs.Prelude.{ℕ, ◌≤◌, ◌<◌, ◌^◌}
use Rattle.answers.specs.Answer as tool

-- a refusal's number and place: the papers' numbers go to 24, those of plans as text to 26
abbrev pub SmallNumber : ℕ → ℕ → Type 0
SmallNumber number place = (number ≤ 26) × (place ≤ 4096)

-- a tool's answer: its value fits the lower half
abbrev pub SmallAnswer : tool.Answer → Type 0
SmallAnswer (tool.Answer.value n) = n < 2 ^ 32
SmallAnswer (tool.Answer.refused r) = SmallNumber r.number r.place
