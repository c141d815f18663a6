-- What the entry's answer says: document 02's words for each case. Assumes nothing.
use Rattle.std.specs.Prelude.{ℕ, ◌≡◌, List, [], ◌∷◌, Result, Ok, Err}
use Rattle.std.proofs.Math.Option.{some, none}
use Rattle.log_records.specs.Record.{Record}
use Rattle.log_records.specs.Packed.{record_at, bytes_of}
use Rattle.play.specs.Answer.{room_of, stop_of, status_of}
use Rattle.run_last_pick.specs.declared.RecordBytes.{RecordBytes}
use Rattle.refusals.specs.declared.Refusal.{Refusal}
use Rattle.refusals.specs.Numbers.{refusal_of}
use Rattle.run_last_pick.specs.declared.Preview.{Preview}
use Rattle.run_last_pick.specs.declared.Preview.TheVariants as code
use Rattle.preview.specs.Preview as preview

-- "A record has 24 bits" (document 01): its three bytes, in their order
abbrev pub bytes_in : RecordBytes → List ℕ
bytes_in b = b.high ∷ b.middle ∷ b.low ∷ []

-- and the record that they are
unfoldable pub record_of : RecordBytes → Record
unfolding record_at
record_of b = record_at (bytes_in b) 0

-- "passed over and why, moved and with which record, race, or no room and of what kind. If the schedule itself already stopped, the preview says so."
unfoldable pub preview_of : Preview → preview.Preview
unfolding record_of room_of stop_of status_of
preview_of (code.Stopped e) = preview.Preview.stopped (stop_of e)
preview_of (code.Passed x) = preview.Preview.passed (status_of x)
preview_of code.Moved = preview.Preview.moved none
preview_of (code.Recorded b) = preview.Preview.moved (some (record_of b))
preview_of (code.Race b) = preview.Preview.race (record_of b)
preview_of (code.NoRoom k) = preview.Preview.no_room (room_of k)

-- that, or a refusal, where the pick counts as the schedule's last
abbrev pub answered : Result Preview Refusal → preview.Previewed
answered (Ok x) = preview.Previewed.shows (preview_of x)
answered (Err r) = preview.Previewed.refused (refusal_of r)

-- the bytes are those that a log has for that record
abbrev pub BytesAsLogged : RecordBytes → Type 0
BytesAsLogged b = bytes_in b ≡ bytes_of (record_of b ∷ [])

-- the same of the record that a preview has, if it has one
abbrev pub LoggedAs : Preview → Type 0
LoggedAs (code.Stopped e) = Unit {0}
LoggedAs (code.Passed x) = Unit {0}
LoggedAs code.Moved = Unit {0}
LoggedAs (code.Recorded b) = BytesAsLogged b
LoggedAs (code.Race b) = BytesAsLogged b
LoggedAs (code.NoRoom k) = Unit {0}

-- and of the one that an answer has
abbrev pub AsLogged : Result Preview Refusal → Type 0
AsLogged (Ok x) = LoggedAs x
AsLogged (Err r) = Unit {0}
