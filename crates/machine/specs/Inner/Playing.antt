-- The abstract machine; no reader of the entries' promises needs it. Its answer to a pick, its runs and their outcomes, by the rules' definitions, and
-- the machine of a plan. Its names are those of the definitions that it follows: use them qualified. Assumes nothing.
use Rattle.std.specs.Prelude.{ℕ, List, [], eqb}
use Rattle.format.specs.Version.{version_of}
use Rattle.plan_packed.specs.Format.{version, terms, root, volatiles, mask_bit}
use Rattle.plan_packed.specs.Trees.{node_at}
use Rattle.rules.specs.State.{start_at}
use Rattle.rules.specs.Room.{PickAnswerOf}
use Rattle.rules.specs.Run.{RunOf, Status, Outcome, run_by, statuses_by, outcome_by}
use Rattle.machine.specs.Inner.Frames.{no_slots, Ready, Found, height}
use Rattle.machine.specs.Inner.Machine.{frames, State, Table, attempt}
pub use Rattle.rules.specs.Room.{passed, race, no_room, moved}
unfoldable pub use Rattle.rules.specs.Room.{no_room_before, deep, deep_at, any_deep, no_room_after, no_room_for, within_room, answer}
unfoldable pub use Rattle.rules.specs.Run.{after_pass, after_move, stopped, resume, status, total_of, totals_from}

abbrev pub PickAnswer : Type 0
PickAnswer = PickAnswerOf frames

abbrev pub Run : Type 0
Run = RunOf frames

-- thread 0 about to call main
unfoldable pub start : State
unfolding start_at no_slots
start = start_at (Found.here [] (Ready.call 0 0 no_slots))

module _ (table : Table) where
  unfoldable pub step : State → ℕ → PickAnswer
  unfolding attempt answer height
  step s p = answer s p (attempt table s p)

  unfoldable pub run : State → List ℕ → Run
  unfolding step run_by
  run s ps = run_by step s ps

  unfoldable pub statuses_from : State → ℕ → ℕ → List Status
  unfolding attempt statuses_by
  statuses_from s p n = statuses_by (attempt table) s p n

  unfoldable pub outcome_of : Run → Outcome
  unfolding statuses_from outcome_by
  outcome_of r = outcome_by (attempt table) r

-- ---- the machine of a plan

unfoldable pub table_of : List ℕ → Table
unfolding version version_of node_at terms root volatiles mask_bit
table_of b = record { version = version_of (version b); node = node_at b; count = terms b; is_volatile = λ f. eqb (mask_bit (volatiles b) f) 1; root = root b }

-- the run of a list of picks on a plan
unfoldable pub machine_run : List ℕ → List ℕ → Run
unfolding run start table_of
machine_run b ps = run (table_of b) start ps
