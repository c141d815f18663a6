-- A play, its log, its threads' states and a preview, each with the lines of what refuses it. Assumes nothing.
use Rattle.std.specs.Prelude.{ℕ, ◌≡◌, List}
use Rattle.std.proofs.Math.Option.{some, none}
use Rattle.format.specs.Refusal.{Refusal}
use Rattle.plan_packed.specs.Trees.{program_of}
use Rattle.log_records.specs.Packed.{bytes_of}
use Rattle.rules.specs.Run.{log}
use Rattle.rules.specs.Play.{schedule_refusal, run_of}
use Rattle.preview.specs.Preview as preview
use Rattle.preview.specs.Preview.{Previewed, previewed}
use Rattle.text_refusal_lines.specs.Lines.{refusal_lines}
use Rattle.text_play_lines.specs.Told.{RunTold}
use Rattle.text_state_lines.specs.Told.{states_text}
use Rattle.text_preview_lines.specs.Lines.{preview_line}
use Rattle.text_answer_lines.specs.Texts.{text_by}

-- play: the lines of the run, and of a race its two records
pub data PlayText (plan schedule : List ℕ) : List ℕ → Type 0 where
  refuses : {r : Refusal} → schedule_refusal plan schedule ≡ some r → PlayText plan schedule (refusal_lines r)
  tells : {text : List ℕ} → schedule_refusal plan schedule ≡ none → RunTold (program_of plan).version (run_of plan schedule) text → PlayText plan schedule text

-- states: a line to each thread of the run
unfoldable pub threads_text : List ℕ → List ℕ → List ℕ
unfolding text_by schedule_refusal states_text
threads_text plan schedule = text_by (schedule_refusal plan schedule) (states_text plan schedule)

-- log: the run's records, packed
unfoldable pub log_text : List ℕ → List ℕ → List ℕ
unfolding text_by schedule_refusal bytes_of run_of log
log_text plan schedule = text_by (schedule_refusal plan schedule) (bytes_of (log (run_of plan schedule)))

-- preview: the line of what the pick would do
unfoldable pub previewed_text : ℕ → Previewed → List ℕ
unfolding refusal_lines preview_line
previewed_text pick (preview.Previewed.refused r) = refusal_lines r
previewed_text pick (preview.Previewed.shows x) = preview_line pick x

unfoldable pub preview_text : List ℕ → List ℕ → ℕ → List ℕ
unfolding previewed_text previewed
preview_text plan schedule pick = previewed_text pick (previewed plan schedule pick)
