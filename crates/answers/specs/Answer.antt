-- What a tool of document 02 answers. Assumes nothing.
use Rattle.std.specs.Prelude.{ℕ, Result, Ok, Err}
use Rattle.std.proofs.Math.Option.{Option, some, none}
use Rattle.format.specs.Refusal.{Refusal}
use Rattle.refusals.specs.declared.Refusal as code
use Rattle.refusals.specs.Numbers.{refusal_of}

-- "An answer is the number and a place" of a refusal; else a value: "Wherever something is written into a lent area, the answer also gives its length [..] in
-- bytes" (document 01), or the number that was asked for
pub data Answer : Type 0 where
  value : ℕ → Answer
  refused : Refusal → Answer

-- the answer, by the refusal and by the value that is given where nothing refuses
unfoldable pub answer_by : Option Refusal → ℕ → Answer
answer_by none n = value n
answer_by (some r) n = refused r

-- what the code answers, in those words
abbrev pub answered : Result ℕ code.Refusal → Answer
answered (Ok n) = value n
answered (Err r) = refused (refusal_of r)
