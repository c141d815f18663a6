-- Demand 2 of the running code: what the entry `play` answers of a play that is not refused, and the log area that it leaves. Assumes nothing.
use Rattle.std.specs.Prelude.{ℕ, ◌≡◌, List, Ok}
use Rattle.plan_packed.specs.Trees.{program_of}
use Rattle.log_records.specs.Record.{Record}
use Rattle.log_records.specs.Packed.{bytes_of}
use Rattle.rules.specs.Executed.{Executed}
use Rattle.format.specs.Area.{overwrite}
use Rattle.play.specs.Played.{Played}
use Rattle.play.specs.Answer.{outcome_of}

-- a run that was played: its log, its outcome and its log area, before and after
pub record ExecutedOn (plan schedule before after : List ℕ) (r : Played) : Type 0 where
  pub log : List Record
  -- "Each run moves as the write-key rules [..] say, [..]; outcome, thread states, counts and log are those of that run"
  pub executed : Executed (program_of plan) schedule (outcome_of r.outcome) log
  -- "After a run the log area begins with the records; its other bytes keep their values."
  pub area : after ≡ overwrite (bytes_of log) before

-- of the answer r to a play of the schedule on the plan
abbrev pub ExecutedIfPassed : (plan schedule before after : List ℕ) → Played → Type 0
ExecutedIfPassed plan schedule before after r = r.checked ≡ Ok tt → ExecutedOn plan schedule before after r
