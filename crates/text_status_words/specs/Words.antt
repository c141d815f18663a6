-- The state of a thread in words (document 01, "How a thread moves"; document 02, E3). Assumes nothing.
use Rattle.std.specs.Prelude.{ℕ, List, ◌++◌}
use Rattle.rules.specs.Step as step
use Rattle.rules.specs.Run.{Status, absent, finished, ready, waiting, stuck, lacking}
use Rattle.text.specs.Text.{ascii}
use Rattle.text_phrases.specs.Phrase.{phrase}

-- "waiting (monitor held by another, or join of an unfinished thread, itself included)"; "The thread then waits until notified"
unfoldable pub wait_words : step.Wait → List ℕ
wait_words (step.Wait.for_monitor o) = phrase " waits for the monitor of object " o
wait_words (step.Wait.for_join o) = phrase " waits for the end of the thread of object " o
wait_words (step.Wait.for_notify o) = phrase " waits to be notified on object " o

-- "stuck (field missing from the object, or join of an object that is no thread)"; "Each needs the monitor held by the mover"; the last case is the
-- definitions' own, to which no accepted plan comes
unfoldable pub stuck_words : step.Stuck → List ℕ
stuck_words (step.Stuck.missing_field o f) = phrase " is stuck: field " f ++ phrase " is missing from object " o
stuck_words (step.Stuck.not_thread o) = phrase " is stuck: there is no thread of object " o
stuck_words (step.Stuck.not_held o) = phrase " is stuck: it does not hold the monitor of object " o
stuck_words step.Stuck.no_rule = ascii " is stuck: no rule"

-- "absent, finished with its value, ready, waiting, stuck with its reason, or lacking the key of a named object's named field"
unfoldable pub status_words : Status → List ℕ
status_words absent = ascii " is absent"
status_words (finished v) = phrase " finished with " v
status_words ready = ascii " is ready"
status_words (waiting w) = wait_words w
status_words (stuck r) = stuck_words r
status_words (lacking o f) = phrase " lacks the key of field " f ++ phrase " of object " o
