-- What the program answers to a word about a log (README.md, "plancheck"). Assumes nothing.
use Rattle.std.specs.Prelude.{ℕ, ◌≤◌, ◌<◌, ◌≡◌, List, length}
use Rattle.std.proofs.Math.Option.{some, none}
use Rattle.format.specs.Refusal.{Refusal}
use Rattle.format.specs.Version.{Version, version_of}
use Rattle.log_records.specs.Record.{Record}
use Rattle.log_records.specs.Packed.{log_of}
use Rattle.log_records.specs.Refusals.{log_refusal}
use Rattle.text_refusal_lines.specs.Lines.{refusal_lines}
use Rattle.text_judge_lines.specs.Told.{LogTold}
use Rattle.diagram.specs.Picture.{Picture}
use Rattle.text_answer_lines.specs.Inner.Told.{Told}
use Rattle.text_log_words.specs.declared.LogWord.{LogWord}
use Rattle.text_log_words.specs.declared.LogWord.TheVariants as word

-- the text of a log, by what a version's texts say of its records: 14, 11 and 12 as the judge's, with their sentences
pub data LogText (Says : Version → List Record → List ℕ → Type 0) (version : ℕ) (log : List ℕ) : List ℕ → Type 0 where
  wrong_version : 1 < version → LogText Says version log (refusal_lines (record { number = 14; place = 0 }))
  refuses : {r : Refusal} → version ≤ 1 → log_refusal log ≡ some r → LogText Says version log (refusal_lines r)
  tells : {text : List ℕ} → version ≤ 1 → log_refusal log ≡ none → Says (version_of version) (log_of log) text → LogText Says version log text

-- by the word: the judge's answer in words, or the picture
pub data SaysOf : LogWord → List ℕ → List ℕ → Type 0 where
  judges : {version : ℕ} {log text : List ℕ} → LogText LogTold version log text → SaysOf (word.Judge version) log text
  draws : {version : ℕ} {log text : List ℕ} → LogText Picture version log text → SaysOf (word.Diagram version) log text

-- an area of 2,680,576 bytes or more has room for every text: it begins with the answer, whose length is told, and keeps its other bytes; a shorter one
-- stays as it was, and 0 is told
pub record Answered (w : LogWord) (log before after : List ℕ) (r : ℕ) : Type 0 where
  pub long : 2680576 ≤ length before → Told (SaysOf w log) before after r
  pub short : length before < 2680576 → (r ≡ 0) × (after ≡ before)
