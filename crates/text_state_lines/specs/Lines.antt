-- The states of a run's threads in words (document 01, "How a thread moves"; document 02, E6). Assumes nothing.
use Rattle.std.specs.Prelude.{ℕ, suc, Bool, true, false, cond, List, [], ◌∷◌, ◌++◌}
use Rattle.rules.specs.Run.{Status, absent, finished, ready, waiting, stuck, lacking}
use Rattle.text_phrases.specs.Phrase.{phrase}
use Rattle.text_status_words.specs.Words.{status_words}

-- a thread that is not there
abbrev pub is_absent : Status → Bool
is_absent absent = true
is_absent (finished v) = false
is_absent ready = false
is_absent (waiting w) = false
is_absent (stuck r) = false
is_absent (lacking o f) = false

-- "thread 1 waits for the monitor of object 2; keys learnt: 0": the thread's number, its state and its total
unfoldable pub present_line : ℕ → Status → ℕ → List ℕ
present_line p s total = phrase "thread " p ++ (status_words s ++ (phrase "; keys learnt: " total ++ (10 ∷ [])))

-- a line for a thread that is there
unfoldable pub state_line : ℕ → Status → ℕ → List ℕ
state_line p s total = cond (is_absent s) [] (present_line p s total)

-- those of an outcome's threads, from thread p on: their states, and their totals
unfoldable pub state_lines : ℕ → List Status → List ℕ → List ℕ
state_lines p [] totals = []
state_lines p (s ∷ states) [] = []  -- never asked: there is a total for every thread
state_lines p (s ∷ states) (total ∷ totals) = state_line p s total ++ state_lines (suc p) states totals
