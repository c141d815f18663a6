-- The judge's answer to a log in words (document 01, "The log and its order"; document 02, E7 and E8). Assumes nothing.
use Rattle.std.specs.Prelude.{ℕ, ◌≤◌, ◌<◌, ◌≡◌, List, [], ◌∷◌, ◌++◌, length}
use Rattle.std.proofs.Math.Option.{some, none}
use Rattle.format.specs.Area.{overwrite}
use Rattle.format.specs.Refusal.{Refusal}
use Rattle.format.specs.Version.{Version, version_of}
use Rattle.log_records.specs.Record.{Record}
use Rattle.log_records.specs.Packed.{log_of}
use Rattle.log_records.specs.Refusals.{log_refusal}
use Rattle.log_conflicts.specs.Conflicts.{Conflicting}
use Rattle.answers.specs.Answer.{Answer}
use Rattle.text.specs.Text.{ascii}
use Rattle.text_race_lines.specs.Lines.{conflicting_lines}

-- the line of a log in which every two accesses that conflict are joined by a chain
unfoldable pub ordered_line : List ℕ
ordered_line = ascii "all conflicting accesses are ordered" ++ (10 ∷ [])

-- the text of a log: that line; or the record that the judge names, the lowest that an earlier access conflicts with and no chain leads to from it, and the
-- last of those earlier accesses
pub data LogTold (v : Version) (L : List Record) : List ℕ → Type 0 where
  ordered : ((j : ℕ) → Conflicting v L j → ⊥) → LogTold v L ordered_line
  conflicts : {j : ℕ} (c : Conflicting v L j) → ((i : ℕ) → Conflicting v L i → j ≤ i) → ((d : Conflicting v L j) → d.index ≤ c.index)
      → LogTold v L (conflicting_lines c)

-- the answer and the lent area afterwards, by the version that the judge is told: 14, 11 or 12 as the judge's. An area of 200 bytes or more has room for
-- every text, and keeps its old bytes after it; a shorter one stays as it was, and the answer is 0
pub data JudgeTold (version : ℕ) (b area : List ℕ) : Answer → List ℕ → Type 0 where
  short : length area < 200 → JudgeTold version b area (Answer.value 0) area
  wrong_version : 200 ≤ length area → 1 < version → JudgeTold version b area (Answer.refused (record { number = 14; place = 0 })) area
  refuses : {r : Refusal} → 200 ≤ length area → version ≤ 1 → log_refusal b ≡ some r → JudgeTold version b area (Answer.refused r) area
  tells : {text : List ℕ}
      → 200 ≤ length area → version ≤ 1 → log_refusal b ≡ none → LogTold (version_of version) (log_of b) text
      → JudgeTold version b area (Answer.value (length text)) (overwrite text area)
