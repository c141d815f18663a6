-- What a pick would do after a schedule (document 02, E1). Assumes nothing.
use Rattle.std.specs.Prelude.{ℕ, List, [], ◌∷◌, ◌++◌}
use Rattle.std.proofs.Math.Option.{Option, some, none}
use Rattle.format.specs.Refusal.{Refusal}
use Rattle.plan_packed.specs.Syntax.{Program}
use Rattle.plan_packed.specs.Trees.{program_of}
use Rattle.log_records.specs.Record.{Record}
use Rattle.rules.specs.State.{State}
use Rattle.rules.specs.Step.{attempt}
use Rattle.rules.specs.Room.{Room, PickAnswerOf, PickAnswer, step}
use Rattle.rules.specs.Run.{Stop, Run, Status, status}
use Rattle.rules.specs.Play.{schedule_refusal, run_of}

-- "passed over and why, moved and with which record, race, or no room and of what kind. If the schedule itself already stopped, the preview says so."
pub data Preview : Type 0 where
  passed : Status → Preview
  moved : Option Record → Preview  -- "Other moves leave no record."
  race : Record → Preview
  no_room : Room → Preview
  stopped : Stop → Preview

-- what the answer to a pick of a thread in this state shows
unfoldable pub shown_by : Status → PickAnswer → Preview
shown_by x PickAnswerOf.passed = passed x
shown_by x (PickAnswerOf.moved m) = moved m.entry
shown_by x (PickAnswerOf.race r) = race r
shown_by x (PickAnswerOf.no_room k) = no_room k

-- "what a pick would do": document 01's step of thread p in state s
unfoldable pub shown : Program → State → ℕ → Preview
unfolding shown_by status attempt step
shown g s p = shown_by (status (attempt g s p)) (step g s p)

-- "after a given schedule", by how its run ended and the state where it stands
unfoldable pub shown_at : Program → State → ℕ → Stop → Preview
unfolding shown
shown_at g s p Stop.end = shown g s p
shown_at g s p Stop.race = stopped Stop.race
shown_at g s p (Stop.no_room k) = stopped (Stop.no_room k)

-- the same, by the run of the schedule
unfoldable pub shown_after : Program → Run → ℕ → Preview
unfolding shown_at
shown_after g r p = shown_at g r.final p r.stop

-- a schedule with a pick added
abbrev pub with_pick : List ℕ → ℕ → List ℕ
with_pick schedule pick = schedule ++ (pick ∷ [])

-- "The pick counts as the schedule's last for refusals 8 and 9, so after 4,096 picks there is no preview."
unfoldable pub preview_refusal : List ℕ → List ℕ → ℕ → Option Refusal
unfolding schedule_refusal
preview_refusal plan schedule pick = schedule_refusal plan (with_pick schedule pick)

-- what is answered: a refusal, or the preview
pub data Previewed : Type 0 where
  refused : Refusal → Previewed
  shows : Preview → Previewed

-- the answer, by the refusal
unfoldable pub previewed_by : List ℕ → List ℕ → ℕ → Option Refusal → Previewed
unfolding shown_after program_of run_of
previewed_by plan schedule pick (some r) = refused r
previewed_by plan schedule pick none = shows (shown_after (program_of plan) (run_of plan schedule) pick)

-- the answer to a preview
unfoldable pub previewed : List ℕ → List ℕ → ℕ → Previewed
unfolding previewed_by preview_refusal
previewed plan schedule pick = previewed_by plan schedule pick (preview_refusal plan schedule pick)
