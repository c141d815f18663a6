-- What a pick would do, in words (document 02, E1). Assumes nothing.
use Rattle.std.specs.Prelude.{ℕ, List, [], ◌∷◌, ◌++◌}
use Rattle.std.proofs.Math.Option.{some, none}
use Rattle.rules.specs.Room as room
use Rattle.rules.specs.Room.{Room}
use Rattle.rules.specs.Run as run
use Rattle.preview.specs.Preview.{Preview, passed, moved, race, no_room, stopped}
use Rattle.text.specs.Text.{ascii}
use Rattle.text_phrases.specs.Phrase.{phrase}
use Rattle.text_move_words.specs.Words.{record_words}
use Rattle.text_status_words.specs.Words.{status_words}

-- "no room (thread, object, key, depth)"
unfoldable pub room_words : Room → List ℕ
room_words room.thread = ascii "no room for a thread"
room_words room.object = ascii "no room for an object"
room_words room.key = ascii "no room for a key"
room_words room.depth = ascii "no room for the depth"

-- why a run stopped; a run that came to its end did not, and no preview says so
unfoldable pub stop_words : run.Stop → List ℕ
stop_words run.end = ascii "its end"
stop_words run.race = ascii "a missing key"
stop_words (run.no_room k) = room_words k

-- "passed over and why, moved and with which record, race, or no room and of what kind. If the schedule itself already stopped, the preview says so.": of a
-- pick of thread p
unfoldable pub preview_line : ℕ → Preview → List ℕ
preview_line p (passed s) = phrase "thread " p ++ (status_words s ++ (ascii ": its pick is passed over" ++ (10 ∷ [])))
preview_line p (moved none) = phrase "thread " p ++ (ascii " moves, without a record" ++ (10 ∷ []))
preview_line p (moved (some r)) = phrase "thread " p ++ (record_words r ++ (10 ∷ []))
preview_line p (race r) = phrase "thread " p ++ (record_words r ++ (ascii ": the run stops" ++ (10 ∷ [])))
preview_line p (no_room k) = phrase "thread " p ++ (ascii " stops the run: " ++ (room_words k ++ (10 ∷ [])))
preview_line p (stopped e) = ascii "the run has stopped already: " ++ (stop_words e ++ (10 ∷ []))
