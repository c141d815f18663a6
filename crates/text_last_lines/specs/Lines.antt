-- The last line of a run (document 01, "Shot list"). Assumes nothing.
use Rattle.std.specs.Prelude.{ℕ, List, [], ◌∷◌}
use Rattle.rules.specs.Room as room
use Rattle.rules.specs.Run as run
use Rattle.rules.specs.Run.{Stop}
use Rattle.text.specs.Text.{ascii, decimal, line}

-- "Outcome words: end, race, no-thread, no-object, no-key, no-depth."
unfoldable pub stop_word : Stop → List ℕ
unfolding ascii
stop_word run.end = ascii "end"
stop_word run.race = ascii "race"
stop_word (run.no_room room.thread) = ascii "no-thread"
stop_word (run.no_room room.object) = ascii "no-object"
stop_word (run.no_room room.key) = ascii "no-key"
stop_word (run.no_room room.depth) = ascii "no-depth"

-- "last line outcome, picks, moves, records"
unfoldable pub outcome_line : Stop → ℕ → ℕ → ℕ → List ℕ
unfolding line decimal stop_word
outcome_line stop picks moves records = line (stop_word stop ∷ decimal picks ∷ decimal moves ∷ decimal records ∷ [])
