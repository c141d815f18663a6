-- The text that is shown for a plan. Assumes nothing.
use Rattle.std.specs.Prelude.{ℕ, List}
use Rattle.plan_packed.specs.Syntax.{Program}
use Rattle.plan_packed.specs.Trees.{program_of}
use Rattle.plan_notation.specs.Shown.{shown_plan}
use Rattle.plan_notation.specs.Layout.{laid_out}

-- a program as text
unfoldable pub text_of_program : Program → List ℕ
unfolding shown_plan laid_out
text_of_program g = laid_out (shown_plan g)

-- an accepted plan as text
unfoldable pub shown_text : List ℕ → List ℕ
unfolding text_of_program program_of
shown_text plan = text_of_program (program_of plan)
