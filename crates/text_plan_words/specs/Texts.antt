-- What the tools answer to a plan alone, in words. Assumes nothing.
use Rattle.std.specs.Prelude.{ℕ, List, [], ◌∷◌, ◌++◌}
use Rattle.plan_packed.specs.Check.{refusal}
use Rattle.text.specs.Text.{ascii, decimal}
use Rattle.plan_written.specs.Written.{written_plan}
use Rattle.plan_notation.specs.Text.{shown_text}
use Rattle.costs.specs.Bound.{bounded}
use Rattle.text_answer_lines.specs.Texts.{text_by, answer_text}

-- check: whether the plan passes
unfoldable pub check_text : List ℕ → List ℕ
unfolding text_by refusal ascii
check_text plan = text_by (refusal plan) (ascii "passes" ++ (10 ∷ []))

-- read: the plan itself, where it passes
unfoldable pub plan_text : List ℕ → List ℕ
unfolding text_by refusal
plan_text plan = text_by (refusal plan) plan

-- show: the plan as text
unfoldable pub show_text : List ℕ → List ℕ
unfolding text_by refusal shown_text
show_text plan = text_by (refusal plan) (shown_text plan)

-- canonical: the plan, written in the one way of document 02, E5
unfoldable pub canonical_text : List ℕ → List ℕ
unfolding text_by refusal written_plan
canonical_text plan = text_by (refusal plan) (written_plan plan)

-- bound: how many moves the plan can need
unfoldable pub bound_line : ℕ → List ℕ
unfolding ascii decimal
bound_line n = ascii "at most " ++ (decimal n ++ (ascii " moves" ++ (10 ∷ [])))

unfoldable pub bound_text : List ℕ → List ℕ
unfolding answer_text bound_line bounded
bound_text plan = answer_text bound_line (bounded plan)
