-- The plan that is given to the program: packed bytes, or the plan of a text. Assumes nothing.
use Rattle.std.specs.Prelude.{ℕ, ◌-◌, cond, List, length}
use Rattle.plan_written.specs.Written.{written}
use Rattle.plan_notation.specs.Lexing.{codes_of}
use Rattle.plan_lexer.specs.Place.{place_of}
use Rattle.plan_parsing.specs.Plan as reading
use Rattle.plan_parsing.specs.Plan.{Reading, read_plan}
use Rattle.read.specs.Read.{Failure, tokens, of_fault, too_many}
use Rattle.text_inputs.specs.Plans.{is_text}

-- a packed plan, or the line and the column where reading stops, and why
pub data Given : Type 0 where
  plan : List ℕ → Given
  no_plan : ℕ → ℕ → Failure → Given

-- reading stops at token number i
unfoldable pub no_plan_at : List ℕ → ℕ → Failure → Given
unfolding place_of
no_plan_at text i f = let p = place_of text i in no_plan p.line p.column f

-- by what the tokens are: the plan, written in the one way of document 02, E5
unfoldable pub plan_by : List ℕ → Reading → Given
unfolding written no_plan_at codes_of
plan_by text (reading.plan g) = plan (written g)
plan_by text (reading.fault f rest) = no_plan_at text (length (codes_of text) - length rest) (of_fault f)

-- the plan of a text (docs/FORMAT.md, "A plan as text")
unfoldable pub text_plan : List ℕ → Given
unfolding too_many no_plan_at plan_by read_plan codes_of
text_plan text = cond (too_many text) (no_plan_at text 16384 tokens) (plan_by text (read_plan (codes_of text)))

-- "A PLAN is packed bytes or text" (README.md, "plancheck")
unfoldable pub given_plan : List ℕ → Given
unfolding is_text text_plan
given_plan bytes = cond (is_text bytes) (text_plan bytes) (plan bytes)
