-- Demand 3 of the running code: what the entry `play_and_judge` answers of a play, refused or not. Assumes nothing.
use Rattle.std.specs.Prelude.{ℕ, ◌≡◌, List, Ok, Err}
use Rattle.std.proofs.Math.Option.{Option}
use Rattle.log_conflicts.specs.Judge.{named, Answers}
use Rattle.log_records.specs.Packed.{bytes_of}
use Rattle.plan_packed.specs.Trees.{program_of}
use Rattle.refusals.specs.declared.Refusal.{Refusal}
use Rattle.rules.specs.Run.{log}
use Rattle.rules.specs.Play.{run_of}
use Rattle.play.specs.Answer.{stop_of}
use Rattle.judge.specs.Answer.{answered}
use Rattle.agreement.specs.Agreement.{NamedBy, Agreement}
use Rattle.agreement.specs.declared.PlayedAndJudged.{PlayedAndJudged}

-- of the answer r to a play of the schedule on the plan
pub record AgreedOn (plan schedule : List ℕ) (r : PlayedAndJudged) : Type 0 where
  -- "a plain access in the log is where the run stopped for want of its key exactly when its field has an earlier plain write and no happens-before
  -- chain leads from the last such write to it": the run that was played, its log, and what the judge answers to it
  pub chains : r.played.checked ≡ Ok tt → Agreement (program_of plan) schedule (run_of plan schedule)
  -- the judgement that the code came to is the judge's of that run's log
  pub judged : r.played.checked ≡ Ok tt → Answers (program_of plan).version (bytes_of (log (run_of plan schedule))) (answered r.judgement)
  -- and by what the code answers of that run: "When a run stops for a missing key, the judge names that record or an earlier one; a judge that finds none
  -- means no missing key."
  pub agrees : r.played.checked ≡ Ok tt
      → (x : Option ℕ) × (answered r.judgement ≡ named x) × NamedBy (stop_of r.played.outcome.stop) r.played.outcome.records x
  -- "A refused play has no run": no judge is asked, and the judgement is the play's own refusal
  pub refused : (x : Refusal) → r.played.checked ≡ Err x → r.judgement ≡ Err x
