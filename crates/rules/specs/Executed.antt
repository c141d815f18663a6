-- Demand 2 of an outcome and a log (README, "What is proved"): they are those of an execution. Lines in quotation marks below are demand 2's.
-- Assumes nothing.
use Rattle.std.specs.Prelude.{ℕ, ◌<◌, ◌≡◌, List, [], ◌↔◌, length}
use Rattle.std.proofs.Math.Option.{some}
use Rattle.std.proofs.Math.ListN.{get_elem?}
use Rattle.plan_packed.specs.Syntax.{Program}
use Rattle.log_records.specs.Record.{Record}
use Rattle.rules.specs.State.{start}
use Rattle.rules.specs.Run.{Run, Outcome, Status, log}
use Rattle.rules.specs.Execution.{Execution, move_count}
use Rattle.rules.specs.ThreadStates.{HasStatus}
use Rattle.rules.specs.NewKeys.{WritesNew}
use Rattle.rules.specs.Growth.{growth}

-- of the picks of a schedule on program g
pub record Executed (g : Program) (schedule : List ℕ) (o : Outcome) (L : List Record) : Type 0 where
  -- "Each run moves as the write-key rules of Boyland's kernel language say, one rule to each move, [..] nothing passed over, stuck or stopped except for
  -- document 01's reasons"
  pub run : Run
  pub execution : Execution g start schedule run
  -- "every plain write a new key"
  pub new_keys : WritesNew [] execution
  -- "outcome, [..] counts and log are those of that run"
  pub same_stop : o.stop ≡ run.stop
  pub same_picks : o.picks ≡ run.picks
  pub same_moves : o.moves ≡ move_count execution
  pub same_records : o.records ≡ length (log run)
  pub same_log : L ≡ log run
  -- and "thread states": each of eight threads has the one state that the rules give it where the run stands
  pub eight : length o.threads ≡ 8
  pub states : (p : ℕ) → p < 8 → (x : Status) → (get_elem? o.threads p ≡ some x) ↔ HasStatus g run.final p x
  -- "The outcome gains one total per thread [..]. It equals the growth of that thread's set over those moves" (document 02, E6)
  pub eight_totals : length o.totals ≡ 8
  pub totals : (p : ℕ) → p < 8 → get_elem? o.totals p ≡ some (growth p execution)
