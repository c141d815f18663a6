-- What an answer says whose refusals are of any type: by the number and place that are told of each.
-- For inner contracts; no reader of the entries' promises needs it. Assumes nothing.
use Rattle.std.specs.Prelude.{ℕ, Result, Ok, Err}
use Rattle.std.proofs.Math.Option.{Option, some, none}
use Rattle.format.specs.Refusal.{Refusal}
use Rattle.answers.specs.Answer.{Answer, value, refused}

-- of a check: none where it passes
abbrev pub check_by : {E : Type 0} → (E → Refusal) → Result (Unit {0}) E → Option Refusal
check_by told (Ok u) = none
check_by told (Err e) = some (told e)

-- of a tool: its value
abbrev pub tool_by : {E : Type 0} → (E → Refusal) → Result ℕ E → Answer
tool_by told (Ok n) = value n
tool_by told (Err e) = refused (told e)
