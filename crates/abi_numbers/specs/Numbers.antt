-- The number that each entry returns, by the answer that the papers define. Assumes nothing.
use Rattle.std.specs.Prelude.{ℕ, ◌≡◌, List}
use Rattle.std.proofs.Math.Option.{some, none}
use Rattle.log_conflicts.specs.Judge.{Judged, refused, named, AnswersTold}
use Rattle.answers.specs.Answer as tool
use Rattle.abi_convention.specs.Convention.{value_number, other_number, refusal_number, answer_number, place_number}
use Rattle.listing_answers.specs.Interleavings.{Next, FirstAnswer, NextAnswer}
use Rattle.witness.specs.Witness.{Witnesses}
use Rattle.read.specs.Read.{Read}

-- judge: 0 for none; its other answer is the index of the first unordered access
unfoldable pub judge_number : Judged → ℕ
judge_number (named none) = value_number 0
judge_number (named (some j)) = other_number j
judge_number (refused r) = refusal_number r

-- next_interleaving: the length of the following schedule; its other answer is that the list is over
unfoldable pub next_number : Next → ℕ
next_number (Next.written n) = value_number n
next_number Next.over = other_number 0
next_number (Next.refused r) = refusal_number r

-- read: the length of the written plan; its other answer is the line and the column where reading stops; 26 for an area that is too short
unfoldable pub read_number : Read → ℕ
read_number (Read.written n) = value_number n
read_number (Read.failed line column f) = other_number (place_number line column)
read_number Read.short = refusal_number (record { number = 26; place = 0 })

-- the judge returns the number of its answer to the version and the log
pub record JudgeReturns (version : ℕ) (log : List ℕ) (n : ℕ) : Type 0 where
  pub answer : Judged
  pub answers : AnswersTold version log answer
  pub numbered : n ≡ judge_number answer

-- first_interleaving returns the number of its answer to the plan, the bound and the area, and leaves the area as that answer has it
pub record FirstReturns (plan : List ℕ) (n : ℕ) (before : List ℕ) (number : ℕ) (after : List ℕ) : Type 0 where
  pub answer : tool.Answer
  pub answers : FirstAnswer plan n before answer after
  pub numbered : number ≡ answer_number answer

-- next_interleaving the same, to a schedule too
pub record NextReturns (plan : List ℕ) (n : ℕ) (schedule before : List ℕ) (number : ℕ) (after : List ℕ) : Type 0 where
  pub answer : Next
  pub answers : NextAnswer plan n schedule before answer after
  pub numbered : number ≡ next_number answer

-- witness returns the number of its answer to the plan, the schedule and the area, and leaves the area as that answer has it
pub record WitnessReturns (plan schedule before : List ℕ) (number : ℕ) (after : List ℕ) : Type 0 where
  pub answer : tool.Answer
  pub answers : Witnesses plan schedule before answer after
  pub numbered : number ≡ answer_number answer
