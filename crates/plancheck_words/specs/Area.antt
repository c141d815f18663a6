-- The text of an answer in a lent area (README.md, "plancheck"). Assumes nothing.
use Rattle.std.specs.Prelude.{ℕ, ◌≤◌, ◌<◌, ◌≡◌, List, length}
use Rattle.text_answer_lines.specs.Inner.Told.{Told}
use Rattle.plancheck_words.specs.Given.{given_plan}
use Rattle.plancheck_words.specs.Words.{Answers}
use Rattle.plancheck_words.specs.declared.Word.{Word}

-- an area of 574,501 bytes or more has room for every text: it begins with the answer, whose length is told, and keeps its other bytes; a shorter one stays
-- as it was, and 0 is told
pub record Answered (w : Word) (p s before after : List ℕ) (r : ℕ) : Type 0 where
  pub long : 574501 ≤ length before → Told (Answers w s (given_plan p)) before after r
  pub short : length before < 574501 → (r ≡ 0) × (after ≡ before)
