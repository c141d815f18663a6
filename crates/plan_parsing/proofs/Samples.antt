-- Texts, read, by computation: document 01's own, every form, and texts that are no plans. Assumes nothing.
use Prim.Native.Nat.{ℕ}
use mathlib.Core.Path.{◌≡◌, refl}
use mathlib.Core.List.{List, [], ◌∷◌, ◌++◌}
use mathlib.Core.Option.{some, none}
use Rattle.format.specs.Version.{v0, v1}
use Rattle.text.specs.Text.{ascii}
use Rattle.plan_packed.specs.Syntax.{Signal, Expression, Condition, Arguments, Procedure, Program, sequence}
use Rattle.plan_notation.specs.Lexing.{codes_of}
use Rattle.plan_notation.specs.Text.{text_of_program}
use Rattle.plan_parsing.specs.Plan.{Reading, plan, fault, read_plan}

-- main alone, in version 1, with no volatile field but 0
main_alone : Expression → Program
main_alone e = record { version = v1; volatiles = 0x80000000; procedures = record { parameters = 0; body = e } ∷ [] }

null : Expression
null = Expression.literal 0

variable : ℕ → Expression
variable x = Expression.variable x

-- a text as a plan
read_text : List ℕ → Reading
unfolding read_plan codes_of
read_text text = read_plan (codes_of text)

-- plan P
plan_p : Program
plan_p =
    main_alone (Expression.let_in (some 0) (Expression.new (1 ∷ []))
    (sequence (Expression.fork (Expression.write (variable 0) 1 null)) (Expression.read (variable 0) 1)))

reads_P : read_text (ascii "let 0 = new(1) in let - = fork (v0.1 := null) in v0.1") ≡ plan plan_p
unfolding read_text plan_p main_alone null variable sequence ascii
reads_P = refl

-- and as it is shown
reads_shown : read_text (text_of_program plan_p) ≡ plan plan_p
unfolding read_text plan_p main_alone null variable sequence text_of_program
reads_shown = refl

-- `if not true then null else null`
reads_if : read_text (ascii "if not true then null else null") ≡ plan (main_alone (Expression.if (Condition.not Condition.truth) null null))
unfolding read_text main_alone null ascii
reads_if = refl

-- a synch on null inside another
reads_synch : read_text (ascii "synch null do synch null do null") ≡ plan (main_alone (Expression.synch null (Expression.synch null null)))
unfolding read_text main_alone null ascii
reads_synch = refl

reads_join : read_text (ascii "join (fork null)") ≡ plan (main_alone (Expression.join (Expression.fork null)))
unfolding read_text main_alone null ascii
reads_join = refl

-- every other form, in two procedures of a plan of version 0
every_form : Program
every_form =
    record {
      version = v0;
      volatiles = 0xa0000001;
      procedures =
          record {
            parameters = 0;
            body = Expression.while (Condition.and (Condition.and Condition.truth (Condition.equal (Expression.fork null) (sequence null null)))
                (Condition.not (Condition.equal null (Expression.read (Expression.new (2 ∷ 31 ∷ [])) 2))))
                (Expression.call 1
                (Arguments.argument (Expression.signal Signal.wait null) (Arguments.argument (Expression.call 0 Arguments.end) Arguments.end)));
          }
          ∷ record {
            parameters = 2;
            body = Expression.write (Expression.read (variable 0) 1) 2 (Expression.signal Signal.notify_all (Expression.signal Signal.notify (variable 1)));
          }
          ∷ [];
    }

shows_every : text_of_program every_form
    ≡ ascii "version 0\nvolatile 2 31\nwhile (true and fork null = (let - = null in\n    null)) and not null = new(2 31).2 do\n"
    ++ ascii "call 1 (wait null, call 0 ())\nprocedure 1 (2) = v0.1.2 := notify all notify v1\n"
unfolding text_of_program every_form null variable sequence ascii
shows_every = refl

reads_every : read_text (text_of_program every_form) ≡ plan every_form
unfolding read_text text_of_program every_form null variable sequence
reads_every = refl
