-- What the tool `show` answers, and what it leaves in the area (docs/FORMAT.md, "A plan as text"). Assumes nothing.
use Rattle.std.specs.Prelude.{ℕ, Bool, List, [], ◌∷◌, ◌++◌, ltb, length}
use Rattle.std.proofs.Math.Option.{Option, some, none}
use Rattle.format.specs.Area.{overwrite}
use Rattle.format.specs.Refusal.{Refusal, Check, check_whole, first_refusal}
use Rattle.plan_packed.specs.Check.{checks}
use Rattle.answers.specs.Answer.{Answer, answer_by}
use Rattle.plan_notation.specs.Text.{shown_text}

-- ---- 25: an area shorter than the text

unfoldable pub short_for_text : List ℕ → List ℕ → Bool
unfolding shown_text
short_for_text plan area = ltb (length area) (length (shown_text plan))

-- ---- after 1 to 7

unfoldable pub show_checks : List ℕ → List ℕ → List Check
unfolding checks short_for_text
show_checks plan area = checks plan ++ (check_whole 25 (short_for_text plan area) ∷ [])

-- the refusal, if there is one
unfoldable pub show_refusal : List ℕ → List ℕ → Option Refusal
unfolding show_checks first_refusal
show_refusal plan area = first_refusal (show_checks plan area)

-- ---- the answer: the refusal, or the length of the text

unfoldable pub show_answer : List ℕ → List ℕ → Answer
unfolding answer_by show_refusal shown_text
show_answer plan area = answer_by (show_refusal plan area) (length (shown_text plan))

-- ---- the area: untouched by a refusal, else it begins with the text

unfoldable pub shown_by : List ℕ → List ℕ → Option Refusal → List ℕ
unfolding shown_text overwrite
shown_by plan area (some r) = area
shown_by plan area none = overwrite (shown_text plan) area

unfoldable pub show_area : List ℕ → List ℕ → List ℕ
unfolding shown_by show_refusal
show_area plan area = shown_by plan area (show_refusal plan area)
