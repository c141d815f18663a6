-- A preview in words: the answer, and the lent area. Assumes nothing.
use Rattle.std.specs.Prelude.{ℕ, ◌≤◌, ◌<◌, ◌≡◌, List, length}
use Rattle.format.specs.Area.{overwrite}
use Rattle.format.specs.Refusal.{Refusal}
use Rattle.answers.specs.Answer.{Answer}
use Rattle.preview.specs.Preview as preview
use Rattle.preview.specs.Preview.{Preview, previewed}
use Rattle.text_preview_lines.specs.Lines.{preview_line}

-- the answer and the lent area afterwards. An area of 200 bytes or more has room for every text, and keeps its old bytes after it; a shorter one stays as
-- it was, and the answer is 0
pub data PreviewTold (plan schedule : List ℕ) (pick : ℕ) (area : List ℕ) : Answer → List ℕ → Type 0 where
  short : length area < 200 → PreviewTold plan schedule pick area (Answer.value 0) area
  refuses : {r : Refusal} → 200 ≤ length area → previewed plan schedule pick ≡ preview.Previewed.refused r
      → PreviewTold plan schedule pick area (Answer.refused r) area
  tells : {x : Preview}
      → 200 ≤ length area → previewed plan schedule pick ≡ preview.Previewed.shows x
      → PreviewTold plan schedule pick area (Answer.value (length (preview_line pick x))) (overwrite (preview_line pick x) area)
