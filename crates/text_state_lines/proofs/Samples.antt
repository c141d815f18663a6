-- States in words, by computation. Assumes nothing.
use Prim.Native.Nat.{ℕ}
use mathlib.Core.Path.{◌≡◌, refl}
use mathlib.Core.List.{List, [], ◌∷◌, ◌++◌}
use Rattle.rules.specs.Step.{for_monitor, missing_field}
use Rattle.rules.specs.Run.{absent, finished, ready, waiting, stuck, lacking}
use Rattle.text.specs.Text.{ascii, decimal}
use Rattle.text_phrases.specs.Phrase.{phrase}
use Rattle.text_status_words.specs.Words.{wait_words, stuck_words, status_words}
use Rattle.text_state_lines.specs.Lines.{present_line, state_line, state_lines}

-- a line of its own
abbrev ended : List ℕ → List ℕ
ended words = words ++ (10 ∷ [])

some_states : state_lines 0 (lacking 1 1 ∷ waiting (for_monitor 2) ∷ absent ∷ stuck (missing_field 0 1) ∷ finished 0 ∷ ready ∷ []) (0 ∷ 12 ∷ 0 ∷ 0 ∷ 3 ∷ 0 ∷ [])
    ≡ ended (ascii "thread 0 lacks the key of field 1 of object 1; keys learnt: 0")
    ++ (ended (ascii "thread 1 waits for the monitor of object 2; keys learnt: 12")
    ++ (ended (ascii "thread 3 is stuck: field 1 is missing from object 0; keys learnt: 0")
    ++ (ended (ascii "thread 4 finished with 0; keys learnt: 3")
    ++ ended (ascii "thread 5 is ready; keys learnt: 0"))))
unfolding state_lines state_line present_line status_words wait_words stuck_words phrase ascii decimal
some_states = refl
