-- What the tool `canonical` answers, and what it leaves in the output area (document 02, E5). Assumes nothing.
use Rattle.std.specs.Prelude.{ℕ, Bool, List, [], ◌∷◌, ◌++◌, ltb, length}
use Rattle.std.proofs.Math.Option.{Option, some, none}
use Rattle.format.specs.Area.{overwrite}
use Rattle.format.specs.Refusal.{Refusal, Check, check_whole, first_refusal}
use Rattle.plan_packed.specs.Check.{checks}
use Rattle.answers.specs.Answer.{Answer, answer_by}
use Rattle.plan_written.specs.Written.{written_plan}

-- ---- 13: "output area shorter than the plan"

unfoldable pub short_output : List ℕ → List ℕ → Bool
short_output plan area = ltb (length area) (length plan)

-- ---- in their order: "Turned away: 13 [..], after 1 to 7."

unfoldable pub canonical_checks : List ℕ → List ℕ → List Check
unfolding checks short_output
canonical_checks plan area = checks plan ++ (check_whole 13 (short_output plan area) ∷ [])

-- the refusal, if there is one
unfoldable pub canonical_refusal : List ℕ → List ℕ → Option Refusal
unfolding canonical_checks first_refusal
canonical_refusal plan area = first_refusal (canonical_checks plan area)

-- ---- the answer

-- "Wherever something is written into a lent area, the answer also gives its length: [..] in bytes."
unfoldable pub canonical_answer : List ℕ → List ℕ → Answer
unfolding answer_by canonical_refusal written_plan
canonical_answer plan area = answer_by (canonical_refusal plan area) (length (written_plan plan))

-- ---- the area

-- "no area changes" where the plan is turned away; else it begins with the written plan, and "Bytes past the plan's length keep their values."
unfoldable pub area_by : List ℕ → List ℕ → Option Refusal → List ℕ
unfolding written_plan overwrite
area_by plan area (some r) = area
area_by plan area none = overwrite (written_plan plan) area

-- the whole area afterwards
unfoldable pub canonical_area : List ℕ → List ℕ → List ℕ
unfolding area_by canonical_refusal
canonical_area plan area = area_by plan area (canonical_refusal plan area)
