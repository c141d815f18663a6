-- What the tool `witness` answers to a plan, a schedule and an area, and what it leaves in the area (document 02, E10). Assumes nothing.
use Rattle.std.specs.Prelude.{ℕ, ◌<◌, ◌≤◌, ◌≡◌, Bool, true, false, List, [], ◌∷◌, ◌++◌, length}
use Rattle.std.proofs.Math.Option.{Option, some, none}
use Rattle.format.specs.Refusal.{Refusal, Check, check_whole, first_refusal}
use Rattle.format.specs.Area.{overwrite}
use Rattle.plan_packed.specs.Trees.{program_of}
use Rattle.rules.specs.Run.{Stop}
use Rattle.rules.specs.Play.{schedule_checks, run_of}
use Rattle.side_by_side.specs.LeftOut.{left_out}
use Rattle.side_by_side.specs.SideBySide.{Written, SideBySide}
use Rattle.answers.specs.Answer.{Answer}

-- "the run has no missing key", by how it stopped
abbrev pub no_missing_key : Stop → Bool
no_missing_key Stop.end = true
no_missing_key Stop.race = false
no_missing_key (Stop.no_room k) = true

-- "Turned away, after 1 to 9: 15 the plan has version 0 or a term of tag 18; 16 the run has no missing key"
unfoldable pub race_checks : List ℕ → List ℕ → List Check
unfolding schedule_checks left_out run_of
race_checks plan schedule =
    schedule_checks plan schedule
    ++ (check_whole 15 (left_out plan)
    ∷ check_whole 16 (no_missing_key (run_of plan schedule).stop)
    ∷ [])

-- their refusal, if there is one: what refuses whatever area is lent
unfoldable pub race_refusal : List ℕ → List ℕ → Option Refusal
unfolding race_checks first_refusal
race_refusal plan schedule = first_refusal (race_checks plan schedule)

-- the answer, and the whole area afterwards
pub data Witnesses (plan schedule area : List ℕ) : Answer → List ℕ → Type 0 where
  -- "no area changes" (document 01) where something refuses
  refused : {r : Refusal} → race_refusal plan schedule ≡ some r → Witnesses plan schedule area (Answer.refused r) area
  -- "17 output shorter than the schedule to be written"
  too_short : {qs : List ℕ} → race_refusal plan schedule ≡ none → Written (program_of plan) schedule qs → length area < length qs
      → Witnesses plan schedule area (Answer.refused (record { number = 17; place = 0 })) area
  -- "write a schedule [..] Played, every pick moves, and at its end [..]"; "Bytes past the written schedule keep their values."
  wrote : {qs : List ℕ} → race_refusal plan schedule ≡ none → (w : Written (program_of plan) schedule qs) → SideBySide (program_of plan) schedule qs w
      → length qs ≤ length area
      → Witnesses plan schedule area (Answer.value (length qs)) (overwrite qs area)
