-- Sample programs as text, computed: document 01's, and one with every form. Assumes nothing.
use Prim.Native.Nat.{ℕ}
use mathlib.Core.Path.{◌≡◌, refl}
use mathlib.Core.List.{List, [], ◌∷◌, ◌++◌}
use mathlib.Core.Option.{some, none}
use Rattle.format.specs.Version.{v0, v1}
use Rattle.text.specs.Text.{ascii}
use Rattle.plan_packed.specs.Syntax.{Signal, Expression, Condition, Arguments, Procedure, Program, sequence}
use Rattle.plan_packed.specs.Syntax as syntax
use Rattle.plan_notation.specs.Tokens.{text_end}
use Rattle.plan_notation.specs.Shown.{shown_plan}
use Rattle.plan_notation.specs.Lexing.{codes_of}
use Rattle.plan_notation.specs.Text.{text_of_program}

-- main alone, in version 1, with no volatile field but 0
main_alone : Expression → Program
main_alone e = record { version = v1; volatiles = 0x80000000; procedures = record { parameters = 0; body = e } ∷ [] }

null : Expression
null = Expression.literal 0

variable : ℕ → Expression
variable x = Expression.variable x

-- plan P
plan_p : Program
plan_p = main_alone (Expression.let_in (some 0) (Expression.new (1 ∷ []))
    (sequence (Expression.fork (Expression.write (variable 0) 1 null)) (Expression.read (variable 0) 1)))

shows_P : text_of_program plan_p ≡ ascii "version 1\nlet 0 = new(1) in\nlet - = fork (v0.1 := null) in\nv0.1\n"
unfolding text_of_program ascii plan_p main_alone null variable sequence
shows_P = refl

reads_P : codes_of (text_of_program plan_p) ≡ shown_plan plan_p ++ (text_end ∷ [])
unfolding text_of_program codes_of shown_plan plan_p main_alone null variable sequence
reads_P = refl
