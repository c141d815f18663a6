-- What can follow some picks, as a test. For inner contracts; no reader of the entries' promise needs it. Assumes nothing.
use Rattle.std.specs.Prelude.{ℕ, Bool, true, false, ◌&&◌, List}
use Rattle.plan_packed.specs.Syntax.{Program}
use Rattle.rules.specs.Room.{PickAnswerOf, PickAnswer, step}
use Rattle.rules.specs.Run.{Stop, play}

-- a run that has not stopped
unfoldable pub goes_on : Stop → Bool
goes_on Stop.end = true
goes_on Stop.race = false
goes_on (Stop.no_room k) = false

-- a pick that moves or stops the run
unfoldable pub moves_or_stops : PickAnswer → Bool
moves_or_stops PickAnswerOf.passed = false
moves_or_stops (PickAnswerOf.race r) = true
moves_or_stops (PickAnswerOf.no_room k) = true
moves_or_stops (PickAnswerOf.moved m) = true

-- thread p's pick can follow these picks
unfoldable pub can_follow : Program → List ℕ → ℕ → Bool
unfolding goes_on moves_or_stops play step
can_follow g ps p = goes_on (play g ps).stop && moves_or_stops (step g (play g ps).final p)

-- one for a run that stopped
unfoldable pub stops : Stop → ℕ
stops Stop.end = 0
stops Stop.race = 1
stops (Stop.no_room k) = 1
