-- A text of which something is said, at the start of an area. For inner contracts; no reader of the entries' promise needs it. Assumes nothing.
use Rattle.std.specs.Prelude.{ℕ, ◌≡◌, List}
use Rattle.text.specs.Inner.Wrote.{Wrote}
use Rattle.text_refusal_lines.specs.Lines.{refusal_lines}
use Rattle.answers.specs.Answer.{Answer, value, refused}

-- some text that has the property begins the area, whose other bytes are as they were
pub record Told (P : List ℕ → Type 0) (before after : List ℕ) (r : ℕ) : Type 0 where
  pub text : List ℕ
  pub says : P text
  pub wrote : Wrote before 0 text after r

-- a value is told as it is, and a refusal by its lines
abbrev pub Settled : Answer → List ℕ → List ℕ → ℕ → Type 0
Settled (value n) before after r = (r ≡ n) × (after ≡ before)
Settled (refused k) before after r = Wrote before 0 (refusal_lines k) after r
