-- The lines of threads as the code has them. For inner contracts; no reader of the entries' promise needs it. Assumes nothing.
use Rattle.std.specs.Prelude.{ℕ, suc, Bool, true, false, List, [], ◌∷◌, ◌++◌}
use Rattle.run_outcome.specs.declared.Thread.{Thread}
use Rattle.run_outcome.specs.declared.ThreadState.{ThreadState}
use Rattle.run_outcome.specs.declared.ThreadState.TheVariants as state
use Rattle.play.specs.Answer.{status_of}
use Rattle.text_state_lines.specs.Lines.{state_line}

-- a thread that is not there
abbrev pub not_there : ThreadState → Bool
not_there state.Absent = true
not_there (state.Finished v) = false
not_there state.Ready = false
not_there (state.Waiting w) = false
not_there (state.Stuck r) = false
not_there (state.Lacking o f) = false

-- a line for each thread that is there, from thread p on
unfoldable pub thread_lines : ℕ → List Thread → List ℕ
thread_lines p [] = []
thread_lines p (t ∷ ts) = state_line p (status_of t.state) t.learnt ++ thread_lines (suc p) ts
