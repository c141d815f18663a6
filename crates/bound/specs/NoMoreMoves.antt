-- What an answer of the entry says of runs (document 02, E12). Assumes nothing.
use Rattle.std.specs.Prelude.{ℕ, ◌≤◌, List, length}
use Rattle.rules.specs.Run.{instances}
use Rattle.rules.specs.Play.{run_of}
use Rattle.answers.specs.Answer.{Answer, value, refused}

-- "No schedule makes more moves, forked threads included.": a move is a rule instance of the run
unfoldable pub NoMoreMoves : List ℕ → Answer → Type 0
unfolding run_of instances
NoMoreMoves plan (refused r) = Unit {0}
NoMoreMoves plan (value n) = (picks : List ℕ) → length (instances (run_of plan picks)) ≤ n
