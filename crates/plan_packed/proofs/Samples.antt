-- Samples, computed: the rows of the table in document 01's words, and four plans, read and checked. Assumes nothing.
use Prim.Native.Nat.{ℕ}
use Prim.Native.String.{String}
use mathlib.Core.Path.{◌≡◌, refl}
use mathlib.Core.List.{List, [], ◌∷◌, ◌++◌, map}
use mathlib.Core.Option.{Option, some, none}
use Rattle.format.specs.Version.{v1}
use Rattle.format.specs.Refusal.{Refusal}
use Rattle.plan_packed.specs.Syntax.{Signal, literal, variable, new, read, write, let_in, if, while, call, fork, join, synch, signal, truth, not, and}
use Rattle.plan_packed.specs.Syntax.{equal}
use Rattle.plan_packed.specs.Syntax.{end, argument, Program}
use Rattle.plan_packed.specs.Format.{Operand, absent, slot, binder, mask, field_name, procedure, expression, condition, list, Row, table}
use Rattle.plan_packed.specs.Trees.{program_of}
use Rattle.plan_packed.specs.Check.{refusal}

-- ---- the table

-- an operand, in document 01's words
word : Operand → List String
word absent = []
word slot = "slot 0 to 7" ∷ []
word binder = "slot 0 to 7, or 15 binds nothing" ∷ []
word mask = "32-bit field mask" ∷ []
word field_name = "field" ∷ []
word procedure = "procedure" ∷ []
word expression = "expression" ∷ []
word condition = "condition" ∷ []
word list = "list" ∷ []

said : Row → List String
unfolding word
said r = word r.first ++ word r.second ++ word r.third

-- "| tag | term | operands |"
table_said : map said table
    ≡ ([]  -- null
    ∷ ("slot 0 to 7" ∷ [])  -- variable
    ∷ ("32-bit field mask" ∷ [])  -- new
    ∷ ("expression" ∷ "field" ∷ [])  -- read
    ∷ ("expression" ∷ "field" ∷ "expression" ∷ [])  -- write
    ∷ ("slot 0 to 7, or 15 binds nothing" ∷ "expression" ∷ "expression" ∷ [])  -- let
    ∷ ("condition" ∷ "expression" ∷ "expression" ∷ [])  -- if
    ∷ ("condition" ∷ "expression" ∷ [])  -- while
    ∷ ("procedure" ∷ "list" ∷ [])  -- call
    ∷ ("expression" ∷ [])  -- fork
    ∷ ("expression" ∷ [])  -- join
    ∷ ("expression" ∷ "expression" ∷ [])  -- synch
    ∷ []  -- true
    ∷ ("condition" ∷ [])  -- not
    ∷ ("condition" ∷ "condition" ∷ [])  -- and
    ∷ ("expression" ∷ "expression" ∷ [])  -- equal
    ∷ ("expression" ∷ "list" ∷ [])  -- list
    ∷ []  -- list end
    ∷ ("expression" ∷ [])  -- wait (document 02, E3)
    ∷ ("expression" ∷ [])  -- notify
    ∷ ("expression" ∷ [])  -- notify all
    ∷ [])
unfolding table said
table_said = refl

-- ---- plans

record Sample : Type 0 where
  plan : List ℕ
  program : Program
  answer : Option Refusal

-- Plan P: main is `let 0 = new(1) in let - = fork (v0.1 := null) in v0.1`, field 1 plain, nine terms, 55 bytes
plan_p : List ℕ
plan_p =
    0x10 ∷ 0x40 ∷ 0x24 ∷ 0x00  -- header
    ∷ 0x80 ∷ 0x00 ∷ 0x00 ∷ 0x00  -- volatile mask
    ∷ 0x00 ∷ 0x00  -- procedure 0
    ∷ 0x28 ∷ 0x00 ∷ 0x20 ∷ 0x10 ∷ 0x00  -- term 0
    ∷ 0x12 ∷ 0x00 ∷ 0x00 ∷ 0x00 ∷ 0x00  -- term 1
    ∷ 0x2f ∷ 0x80 ∷ 0x60 ∷ 0x38 ∷ 0x00  -- term 2
    ∷ 0x48 ∷ 0x08 ∷ 0x00 ∷ 0x00 ∷ 0x00  -- term 3
    ∷ 0x20 ∷ 0x0a ∷ 0x10 ∷ 0x18 ∷ 0x00  -- term 4
    ∷ 0x08 ∷ 0x00 ∷ 0x00 ∷ 0x00 ∷ 0x00  -- term 5
    ∷ 0x00 ∷ 0x00 ∷ 0x00 ∷ 0x00 ∷ 0x00  -- term 6
    ∷ 0x18 ∷ 0x10 ∷ 0x10 ∷ 0x00 ∷ 0x00  -- term 7
    ∷ 0x08 ∷ 0x00 ∷ 0x00 ∷ 0x00 ∷ 0x00  -- term 8
    ∷ []

sample_p : Sample
unfolding plan_p
sample_p =
    record {
      plan = plan_p;
      program = record {
        version = v1;
        volatiles = 0x80000000;
        procedures = record {
          parameters = 0;
          body = let_in (some 0) (new (1 ∷ [])) (let_in none (fork (write (variable 0) 1 (literal 0))) (read (variable 0) 1));
        } ∷ [];
      };
      answer = none;
    }

-- every tag of document 01's table: two procedures, 29 terms
plan_every_tag : List ℕ
plan_every_tag =
    0x10 ∷ 0x80 ∷ 0x74 ∷ 0x00  -- header
    ∷ 0x84 ∷ 0x00 ∷ 0x00 ∷ 0x00  -- volatile mask
    ∷ 0x00 ∷ 0x00  -- procedure 0
    ∷ 0x20 ∷ 0x1c  -- procedure 1
    ∷ 0x2f ∷ 0x80 ∷ 0x20 ∷ 0xd8 ∷ 0x00  -- term 0
    ∷ 0x28 ∷ 0x80 ∷ 0x40 ∷ 0x18 ∷ 0x00  -- term 1
    ∷ 0x12 ∷ 0x00 ∷ 0x00 ∷ 0x00 ∷ 0x08  -- term 2
    ∷ 0x30 ∷ 0x08 ∷ 0x05 ∷ 0x02 ∷ 0x20  -- term 3
    ∷ 0x68 ∷ 0x0a ∷ 0x00 ∷ 0x00 ∷ 0x00  -- term 4
    ∷ 0x70 ∷ 0x0c ∷ 0x03 ∷ 0x80 ∷ 0x00  -- term 5
    ∷ 0x60 ∷ 0x00 ∷ 0x00 ∷ 0x00 ∷ 0x00  -- term 6
    ∷ 0x78 ∷ 0x10 ∷ 0x04 ∷ 0x80 ∷ 0x00  -- term 7
    ∷ 0x08 ∷ 0x80 ∷ 0x00 ∷ 0x00 ∷ 0x00  -- term 8
    ∷ 0x00 ∷ 0x00 ∷ 0x00 ∷ 0x00 ∷ 0x00  -- term 9
    ∷ 0x38 ∷ 0x16 ∷ 0x06 ∷ 0x80 ∷ 0x00  -- term 10
    ∷ 0x68 ∷ 0x18 ∷ 0x00 ∷ 0x00 ∷ 0x00  -- term 11
    ∷ 0x60 ∷ 0x00 ∷ 0x00 ∷ 0x00 ∷ 0x00  -- term 12
    ∷ 0x20 ∷ 0x1c ∷ 0x10 ∷ 0x3c ∷ 0x00  -- term 13
    ∷ 0x08 ∷ 0x80 ∷ 0x00 ∷ 0x00 ∷ 0x00  -- term 14
    ∷ 0x18 ∷ 0x21 ∷ 0xf0 ∷ 0x00 ∷ 0x00  -- term 15
    ∷ 0x08 ∷ 0x80 ∷ 0x00 ∷ 0x00 ∷ 0x00  -- term 16
    ∷ 0x50 ∷ 0x24 ∷ 0x00 ∷ 0x00 ∷ 0x00  -- term 17
    ∷ 0x48 ∷ 0x26 ∷ 0x00 ∷ 0x00 ∷ 0x00  -- term 18
    ∷ 0x58 ∷ 0x28 ∷ 0x0a ∷ 0x80 ∷ 0x00  -- term 19
    ∷ 0x08 ∷ 0x80 ∷ 0x00 ∷ 0x00 ∷ 0x00  -- term 20
    ∷ 0x40 ∷ 0x41 ∷ 0x60 ∷ 0x00 ∷ 0x00  -- term 21
    ∷ 0x80 ∷ 0x2e ∷ 0x0c ∷ 0x00 ∷ 0x00  -- term 22
    ∷ 0x08 ∷ 0x80 ∷ 0x00 ∷ 0x00 ∷ 0x00  -- term 23
    ∷ 0x80 ∷ 0x32 ∷ 0x0d ∷ 0x00 ∷ 0x00  -- term 24
    ∷ 0x00 ∷ 0x00 ∷ 0x00 ∷ 0x00 ∷ 0x00  -- term 25
    ∷ 0x88 ∷ 0x00 ∷ 0x00 ∷ 0x00 ∷ 0x00  -- term 26
    ∷ 0x00 ∷ 0x00 ∷ 0x00 ∷ 0x00 ∷ 0x00  -- term 27
    ∷ 0x08 ∷ 0x80 ∷ 0x00 ∷ 0x00 ∷ 0x00  -- term 28
    ∷ []

sample_every_tag : Sample
unfolding plan_every_tag
sample_every_tag =
    record {
      plan = plan_every_tag;
      program = record {
        version = v1;
        volatiles = 0x84000000;
        procedures = record {
          parameters = 0;
          body = let_in none
              (let_in (some 1) (new (1 ∷ 31 ∷ []))
              (if (not (and truth (equal (variable 1) (literal 0))))
              (while (not truth) (write (variable 1) 1 (read (variable 1) 31)))
              (join (fork (synch (variable 1) (call 1 (argument (variable 1) (argument (literal 0) end))))))))
              (literal 0);
        } ∷ record { parameters = 2; body = variable 1 } ∷ [];
      };
      answer = none;
    }

-- document 02, E3: main is `synch null do let - = notify null in let - = notify all null in wait null`
plan_signals : List ℕ
plan_signals =
    0x10 ∷ 0x40 ∷ 0x28 ∷ 0x00  -- header
    ∷ 0x80 ∷ 0x00 ∷ 0x00 ∷ 0x00  -- volatile mask
    ∷ 0x00 ∷ 0x00  -- procedure 0
    ∷ 0x58 ∷ 0x02 ∷ 0x01 ∷ 0x00 ∷ 0x00  -- term 0
    ∷ 0x00 ∷ 0x00 ∷ 0x00 ∷ 0x00 ∷ 0x00  -- term 1
    ∷ 0x2f ∷ 0x80 ∷ 0x60 ∷ 0x28 ∷ 0x00  -- term 2
    ∷ 0x98 ∷ 0x08 ∷ 0x00 ∷ 0x00 ∷ 0x00  -- term 3
    ∷ 0x00 ∷ 0x00 ∷ 0x00 ∷ 0x00 ∷ 0x00  -- term 4
    ∷ 0x2f ∷ 0x80 ∷ 0xc0 ∷ 0x40 ∷ 0x00  -- term 5
    ∷ 0xa0 ∷ 0x0e ∷ 0x00 ∷ 0x00 ∷ 0x00  -- term 6
    ∷ 0x00 ∷ 0x00 ∷ 0x00 ∷ 0x00 ∷ 0x00  -- term 7
    ∷ 0x90 ∷ 0x12 ∷ 0x00 ∷ 0x00 ∷ 0x00  -- term 8
    ∷ 0x00 ∷ 0x00 ∷ 0x00 ∷ 0x00 ∷ 0x00  -- term 9
    ∷ []

sample_signals : Sample
unfolding plan_signals
sample_signals =
    record {
      plan = plan_signals;
      program = record {
        version = v1;
        volatiles = 0x80000000;
        procedures = record {
          parameters = 0;
          body = synch (literal 0)
              (let_in none (signal Signal.notify (literal 0))
              (let_in none (signal Signal.notify_all (literal 0)) (signal Signal.wait (literal 0))));
        } ∷ [];
      };
      answer = none;
    }

-- procedure 1, of one parameter, is `let 2 = v2 in v0`: "A let binds its slot in its second operand only."
plan_unbound : List ℕ
plan_unbound =
    0x10 ∷ 0x80 ∷ 0x10 ∷ 0x00  -- header
    ∷ 0x80 ∷ 0x00 ∷ 0x00 ∷ 0x00  -- volatile mask
    ∷ 0x00 ∷ 0x00  -- procedure 0
    ∷ 0x10 ∷ 0x01  -- procedure 1
    ∷ 0x00 ∷ 0x00 ∷ 0x00 ∷ 0x00 ∷ 0x00  -- term 0
    ∷ 0x29 ∷ 0x00 ∷ 0x40 ∷ 0x18 ∷ 0x00  -- term 1
    ∷ 0x09 ∷ 0x00 ∷ 0x00 ∷ 0x00 ∷ 0x00  -- term 2
    ∷ 0x08 ∷ 0x00 ∷ 0x00 ∷ 0x00 ∷ 0x00  -- term 3
    ∷ []

sample_unbound : Sample
unfolding plan_unbound
sample_unbound =
    record {
      plan = plan_unbound;
      program = record {
        version = v1;
        volatiles = 0x80000000;
        procedures = record { parameters = 0; body = literal 0 } ∷ record { parameters = 1; body = let_in (some 2) (variable 2) (variable 0) } ∷ [];
      };
      answer = some (record { number = 7; place = 1 });
    }

samples : List Sample
unfolding sample_p sample_every_tag sample_signals sample_unbound
samples = sample_p ∷ sample_every_tag ∷ sample_signals ∷ sample_unbound ∷ []

samples_read : map (λ (s : Sample). program_of s.plan) samples ≡ map (λ (s : Sample). s.program) samples
unfolding program_of samples
samples_read = refl

samples_checked : map (λ (s : Sample). refusal s.plan) samples ≡ map (λ (s : Sample). s.answer) samples
unfolding refusal samples
samples_checked = refl
