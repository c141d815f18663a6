-- A play in words: the shot list of its run, and of a run that stopped for want of a key the two records between which nothing leads. Assumes nothing.
use Rattle.std.specs.Prelude.{ℕ, suc, ◌≤◌, ◌<◌, ◌≡◌, List, ◌++◌, length}
use Rattle.std.proofs.Math.Option.{some, none}
use Rattle.format.specs.Area.{overwrite}
use Rattle.format.specs.Refusal.{Refusal}
use Rattle.format.specs.Version.{Version}
use Rattle.plan_packed.specs.Trees.{program_of}
use Rattle.log_order.specs.Chains.{Unordered}
use Rattle.rules.specs.Run.{race, Run, instances, log}
use Rattle.rules.specs.Play.{schedule_refusal, run_of}
use Rattle.answers.specs.Answer.{Answer}
use Rattle.text_record_lines.specs.Lines.{record_lines}
use Rattle.text_last_lines.specs.Lines.{outcome_line}
use Rattle.text_race_lines.specs.Lines.{unordered_lines}

-- the shot list of a run: a line for each record, and the last line (document 01, "Shot list")
unfoldable pub shot_lines : Run → List ℕ
unfolding record_lines outcome_line log instances
shot_lines r = record_lines 0 (log r) ++ outcome_line r.stop r.picks (length (instances r)) (length (log r))

-- the text of a run, by the chains of a version: the shot list; and where the run stopped for want of a key, the last record and the last write of its
-- field, from which no chain leads to it
pub data RunTold (v : Version) (r : Run) : List ℕ → Type 0 where
  no_race : (r.stop ≡ race → ⊥) → RunTold v r (shot_lines r)
  races : {j : ℕ} → r.stop ≡ race → suc j ≡ length (log r) → (u : Unordered v (log r) j) → RunTold v r (shot_lines r ++ unordered_lines u)

-- the answer and the lent area afterwards. An area of 131,072 bytes or more has room for every text, and keeps its old bytes after it; a shorter one stays as
-- it was, and the answer is 0
pub data PlayTold (plan schedule area : List ℕ) : Answer → List ℕ → Type 0 where
  short : length area < 131072 → PlayTold plan schedule area (Answer.value 0) area
  refuses : {r : Refusal} → 131072 ≤ length area → schedule_refusal plan schedule ≡ some r → PlayTold plan schedule area (Answer.refused r) area
  tells : {text : List ℕ}
      → 131072 ≤ length area → schedule_refusal plan schedule ≡ none → RunTold (program_of plan).version (run_of plan schedule) text
      → PlayTold plan schedule area (Answer.value (length text)) (overwrite text area)
