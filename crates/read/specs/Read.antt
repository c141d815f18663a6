-- What the tool `read` answers, and what it leaves in the area (docs/FORMAT.md, "A plan as text"). Assumes nothing.
use Rattle.std.specs.Prelude.{ℕ, ◌-◌, Bool, cond, List, ltb, length}
use Rattle.format.specs.Area.{overwrite}
use Rattle.plan_packed.specs.Syntax.{Program}
use Rattle.plan_written.specs.Written as bytes
use Rattle.plan_notation.specs.Lexing.{codes_of}
use Rattle.plan_lexer.specs.Place.{place_of}
use Rattle.plan_parsing.specs.Plan.{Reading, plan, fault, Fault, read_plan}

-- why a text is no plan: it has over 16,384 tokens, its end included, or a fault
pub data Failure : Type 0 where
  tokens : Failure
  of_fault : Fault → Failure

-- the length of the written plan; that the area is too short for it; or the line and the column where reading stops, and why
pub data Read : Type 0 where
  written : ℕ → Read
  short : Read
  failed : ℕ → ℕ → Failure → Read

unfoldable pub too_many : List ℕ → Bool
unfolding codes_of
too_many text = ltb 16384 (length (codes_of text))

-- the area is shorter than the written plan
unfoldable pub short_for_plan : Program → List ℕ → Bool
unfolding bytes.written
short_for_plan g area = ltb (length area) (length (bytes.written g))

-- where token number i is
unfoldable pub failed_at : List ℕ → ℕ → Failure → Read
unfolding place_of
failed_at text i f = let p = place_of text i in failed p.line p.column f

-- by what the tokens are
unfoldable pub answer_by : List ℕ → List ℕ → Reading → Read
unfolding short_for_plan bytes.written failed_at codes_of
answer_by text area (plan g) = cond (short_for_plan g area) Read.short (Read.written (length (bytes.written g)))
answer_by text area (fault f rest) = failed_at text (length (codes_of text) - length rest) (of_fault f)

unfoldable pub read_answer : List ℕ → List ℕ → Read
unfolding too_many failed_at answer_by read_plan codes_of
read_answer text area = cond (too_many text) (failed_at text 16384 tokens) (answer_by text area (read_plan (codes_of text)))

-- the area begins with the written plan, or is as it was
unfoldable pub area_by : List ℕ → Reading → List ℕ
unfolding short_for_plan bytes.written overwrite
area_by area (plan g) = cond (short_for_plan g area) area (overwrite (bytes.written g) area)
area_by area (fault f rest) = area

unfoldable pub read_area : List ℕ → List ℕ → List ℕ
unfolding too_many area_by read_plan codes_of
read_area text area = cond (too_many text) area (area_by area (read_plan (codes_of text)))
