-- What a play answers whose refusal is of any type: by the number and place that are told of it.
-- For inner contracts; no reader of the entries' promises needs it. Assumes nothing.
use Rattle.std.specs.Prelude.{Result, Ok, Err}
use Rattle.format.specs.Refusal.{Refusal}
use Rattle.rules.specs.Play as play
use Rattle.run_outcome.specs.declared.Outcome.{Outcome}
use Rattle.play.specs.declared.outcome.Played as code
use Rattle.play.specs.Answer.{outcome_of}

-- of what its checks answer, and the outcome
abbrev pub play_in : {E : Type 0} → (E → Refusal) → Result (Unit {0}) E → Outcome → play.Played
play_in told (Ok u) x = play.Played.ran (outcome_of x)
play_in told (Err e) x = play.Played.refused (told e)

-- a refusal, or an outcome
abbrev pub play_by : {E : Type 0} → (E → Refusal) → code.Played E → play.Played
play_by told p = play_in told p.checked p.outcome
