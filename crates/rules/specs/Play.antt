-- What a play of a schedule on a plan answers, and what it leaves in the log area (document 01, "Who can cause a refusal"). Assumes nothing.
use Rattle.std.specs.Prelude.{ℕ, ◌*◌, Bool, List, [], ◌∷◌, ◌++◌, ltb, length, get_or}
use Rattle.std.proofs.Math.Option.{Option, some, none}
use Rattle.format.specs.Refusal.{Refusal, Check, check, check_whole, first_refusal}
use Rattle.format.specs.Area.{overwrite}
use Rattle.plan_packed.specs.Trees.{program_of}
use Rattle.plan_packed.specs.Check.{checks}
use Rattle.log_records.specs.Packed.{bytes_of}
use Rattle.rules.specs.Run.{Run, play, Outcome, outcome_of, log}

-- ---- 8: "over 4,096 picks"

unfoldable pub too_many_picks : List ℕ → Bool
too_many_picks schedule = ltb 4096 (length schedule)

-- ---- 9: "a pick over 7", at the lowest pick

unfoldable pub wrong_pick : List ℕ → ℕ → Bool
wrong_pick schedule i = ltb 7 (get_or schedule i 0)

-- ---- 10: "log area under 3 times the picks"

unfoldable pub short_area : List ℕ → List ℕ → Bool
short_area schedule area = ltb (length area) (3 * length schedule)

-- ---- in their order: "Checks run in the order of the numbers, each over the whole input."

-- checks 1 to 9, of a plan and a schedule
unfoldable pub schedule_checks : List ℕ → List ℕ → List Check
unfolding checks too_many_picks wrong_pick
schedule_checks plan schedule =
    checks plan
    ++ (check_whole 8 (too_many_picks schedule)
    ∷ check 9 (length schedule) (wrong_pick schedule)
    ∷ [])

-- their refusal, if there is one: what refuses a schedule on a plan, whatever area is lent
unfoldable pub schedule_refusal : List ℕ → List ℕ → Option Refusal
unfolding schedule_checks first_refusal
schedule_refusal plan schedule = first_refusal (schedule_checks plan schedule)

-- checks 1 to 10
unfoldable pub play_checks : List ℕ → List ℕ → List ℕ → List Check
unfolding schedule_checks short_area
play_checks plan schedule area = schedule_checks plan schedule ++ (check_whole 10 (short_area schedule area) ∷ [])

-- the refusal of a play, if there is one
unfoldable pub play_refusal : List ℕ → List ℕ → List ℕ → Option Refusal
unfolding play_checks first_refusal
play_refusal plan schedule area = first_refusal (play_checks plan schedule area)

-- the run of a schedule on an accepted plan
unfoldable pub run_of : List ℕ → List ℕ → Run
unfolding program_of play
run_of plan schedule = play (program_of plan) schedule

-- "A refused play has no run."
pub data Played : Type 0 where
  refused : Refusal → Played
  ran : Outcome → Played

-- the answer, by the refusal
unfoldable pub played_by : List ℕ → List ℕ → Option Refusal → Played
unfolding run_of outcome_of program_of
played_by plan schedule (some r) = refused r
played_by plan schedule none = ran (outcome_of (program_of plan) (run_of plan schedule))

-- the answer to a play
unfoldable pub played : List ℕ → List ℕ → List ℕ → Played
unfolding played_by play_refusal
played plan schedule area = played_by plan schedule (play_refusal plan schedule area)

-- "no area changes" where the play is refused; "After a run the log area begins with the records; its other bytes keep their values."
unfoldable pub area_by : List ℕ → List ℕ → List ℕ → Option Refusal → List ℕ
unfolding run_of log bytes_of overwrite
area_by plan schedule area (some r) = area
area_by plan schedule area none = overwrite (bytes_of (log (run_of plan schedule))) area

-- the whole log area after a play
unfoldable pub area_after : List ℕ → List ℕ → List ℕ → List ℕ
unfolding area_by play_refusal
area_after plan schedule area = area_by plan schedule area (play_refusal plan schedule area)
