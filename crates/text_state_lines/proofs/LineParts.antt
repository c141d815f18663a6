-- The line of a thread: the parts that it is put together from, and that a thread which is not there has none. Assumes nothing.
use Prim.Native.Nat.{ℕ}
use mathlib.Core.Path.{◌≡◌, refl, sym, ◌∙◌}
use mathlib.Core.Bool.{true, false}
use mathlib.Core.List.{[], ◌∷◌, ◌++◌, append_assoc}
use Rattle.rules.specs.Run.{Status}
use Rattle.run_outcome.specs.declared.ThreadState.{ThreadState}
use Rattle.run_outcome.specs.declared.ThreadState.TheVariants as state
use Rattle.play.specs.Answer.{status_of}
use Rattle.text_phrases.specs.Phrase.{phrase}
use Rattle.text_status_words.specs.Words.{status_words}
use Rattle.text_state_lines.specs.Lines.{is_absent, present_line, state_line}
use Rattle.text_state_lines.specs.Inner.Threads.{not_there}

pub present_parts : (p : ℕ) (s : Status) (total : ℕ)
    → ((phrase "thread " p ++ status_words s) ++ phrase "; keys learnt: " total) ++ (10 ∷ []) ≡ present_line p s total
unfolding present_line
present_parts p s total = simp append_assoc

not_there_lem : (s : ThreadState) → not_there s ≡ is_absent (status_of s)
unfolding status_of
not_there_lem state.Absent = refl
not_there_lem (state.Finished v) = refl
not_there_lem state.Ready = refl
not_there_lem (state.Waiting w) = refl
not_there_lem (state.Stuck r) = refl
not_there_lem (state.Lacking o f) = refl

pub absent_line : (p total : ℕ) (s : ThreadState) → not_there s ≡ true → [] ≡ state_line p (status_of s) total
unfolding state_line
absent_line p total s e = simp (sym (not_there_lem s) ∙ e)

pub present_line_lem : (p total : ℕ) (s : ThreadState) → not_there s ≡ false → present_line p (status_of s) total ≡ state_line p (status_of s) total
unfolding state_line
present_line_lem p total s e = simp (sym (not_there_lem s) ∙ e)
