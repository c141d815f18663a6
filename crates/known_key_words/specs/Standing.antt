-- Where the run on numbers stands after some of its picks: the state of the arrays that a debugger reads. It follows `play_of`, the definition that the
-- engine's contract names, pick by pick; that the play goes on from there is `plays_on`. Assumes nothing.
use Rattle.std.specs.Prelude.{ℕ, ◌+◌, ◌%◌, List, [], ◌∷◌}
use Rattle.run_outcome.specs.declared.Stop.{Stop}
use Rattle.run_state.specs.declared.Setting.{Setting}
use Rattle.run_state.specs.declared.Entry.{Entry}
use Rattle.run_pick.specs.Inner.Answer.{Move, PickAnswer, PickAnswer as answer}
use Rattle.run_engine.specs.Inner.Engine.{EngineState, Played, stopped, stayed, after, turn_by, play_of}

-- the play goes on from a state; or it stopped in one, "unmoved" (document 01), and this is what it comes to
pub data Standing : Type 0 where
  going : EngineState → Standing
  halted : EngineState → Played → Standing

-- the state: its heads have the threads' key sets
abbrev pub engine_of : Standing → EngineState
engine_of (going m) = m
engine_of (halted m r) = m

-- the log area
abbrev pub area_of : Standing → List ℕ
area_of (going m) = m.log
area_of (halted m r) = r.area

-- after a pick, by its answer
abbrev pub by_answer : PickAnswer → Standing → (Move → Standing) → (Stop → Entry → Standing) → Standing
by_answer answer.Passed pass move halt = pass
by_answer (answer.Moved v) pass move halt = move v
by_answer (answer.Stopped e x) pass move halt = halt e x

-- after these picks from m, where i picks came before them
unfoldable pub standing : List ℕ → List ℕ → Setting → EngineState → List ℕ → ℕ → Standing
standing ws rs g m [] i = going m
standing ws rs g m (p ∷ ps) i =
    by_answer (turn_by ws rs g m (p % 8)).answer
    (standing ws rs g (stayed m (turn_by ws rs g m (p % 8)).stack) ps (i + 1))
    (λ v. standing ws rs g (after m (p % 8) v (turn_by ws rs g m (p % 8)).stack) ps (i + 1))
    (λ e x. halted m (stopped g m (p % 8) x e i))

-- the rest of the play, of the picks qs with i before them
abbrev pub go_on : List ℕ → List ℕ → Setting → List ℕ → ℕ → Standing → Played
go_on ws rs g qs i (going m) = play_of ws rs g m qs i
go_on ws rs g qs i (halted m r) = r
