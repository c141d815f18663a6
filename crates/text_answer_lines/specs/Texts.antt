-- A text where nothing refuses, and else the refusal's lines. Assumes nothing.
use Rattle.std.specs.Prelude.{ℕ, List}
use Rattle.std.proofs.Math.Option.{Option, some, none}
use Rattle.format.specs.Refusal.{Refusal}
use Rattle.text_refusal_lines.specs.Lines.{refusal_lines}
use Rattle.answers.specs.Answer.{Answer, value, refused}

-- a refusal's lines, or a text where nothing refuses
unfoldable pub text_by : Option Refusal → List ℕ → List ℕ
unfolding refusal_lines
text_by none text = text
text_by (some r) text = refusal_lines r

-- a refusal's lines, or a value in words
unfoldable pub answer_text : (ℕ → List ℕ) → Answer → List ℕ
unfolding refusal_lines
answer_text words (value n) = words n
answer_text words (refused r) = refusal_lines r
