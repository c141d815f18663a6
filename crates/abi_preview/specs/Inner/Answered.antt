-- What a preview answers whose refusals are of any type: by the number and place that are told of each.
-- For inner contracts; no reader of the entries' promises needs it. Assumes nothing.
use Rattle.std.specs.Prelude.{Result, Ok, Err}
use Rattle.format.specs.Refusal.{Refusal}
use Rattle.run_last_pick.specs.declared.Preview as code
use Rattle.preview.specs.Preview.{Previewed}
use Rattle.preview.specs.Answer.{preview_of, LoggedAs}

-- what the pick would do
abbrev pub preview_by : {E : Type 0} → (E → Refusal) → Result code.Preview E → Previewed
preview_by told (Ok x) = Previewed.shows (preview_of x)
preview_by told (Err e) = Previewed.refused (told e)

-- the record that it has is as a log has it
abbrev pub LoggedIn : {E : Type 0} → Result code.Preview E → Type 0
LoggedIn (Ok x) = LoggedAs x
LoggedIn (Err e) = Unit {0}
