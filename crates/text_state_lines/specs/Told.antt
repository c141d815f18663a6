-- The states of the threads after a play, in words. Assumes nothing.
use Rattle.std.specs.Prelude.{ℕ, ◌≤◌, ◌<◌, ◌≡◌, List, length}
use Rattle.std.proofs.Math.Option.{some, none}
use Rattle.format.specs.Area.{overwrite}
use Rattle.format.specs.Refusal.{Refusal}
use Rattle.plan_packed.specs.Trees.{program_of}
use Rattle.rules.specs.Run.{outcome_of}
use Rattle.rules.specs.Play.{schedule_refusal, run_of}
use Rattle.answers.specs.Answer.{Answer}
use Rattle.text_state_lines.specs.Lines.{state_lines}

-- the lines of the threads as the run of a schedule on a plan leaves them
unfoldable pub states_text : List ℕ → List ℕ → List ℕ
states_text plan schedule =
    state_lines 0 (outcome_of (program_of plan) (run_of plan schedule)).threads (outcome_of (program_of plan) (run_of plan schedule)).totals

-- the answer and the lent area afterwards. An area of 2,048 bytes or more has room for every text, and keeps its old bytes after it; a shorter one stays as
-- it was, and the answer is 0
pub data StatesTold (plan schedule area : List ℕ) : Answer → List ℕ → Type 0 where
  short : length area < 2048 → StatesTold plan schedule area (Answer.value 0) area
  refuses : {r : Refusal} → 2048 ≤ length area → schedule_refusal plan schedule ≡ some r → StatesTold plan schedule area (Answer.refused r) area
  tells : 2048 ≤ length area → schedule_refusal plan schedule ≡ none
      → StatesTold plan schedule area (Answer.value (length (states_text plan schedule))) (overwrite (states_text plan schedule) area)
