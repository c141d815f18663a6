-- Frames, and a frame as three numbers: the machine that the code runs; no reader of the entries' promises needs it. Assumes nothing.
use Rattle.std.specs.Prelude.{ℕ, ◌+◌, ◌*◌, ◌/◌, ◌%◌, List, [], ◌∷◌, get_or}
use Rattle.run_term_words.specs.Inner.Slots.{bind_of}
use Rattle.run_frames.specs.declared.frame.Kind.{Kind}
use Rattle.run_frames.specs.declared.frame.Kind.TheVariants as kind
use Rattle.run_frames.specs.declared.frame.Frame.{Frame}
use Rattle.run_frames.specs.declared.frame.Packed.{Packed}

abbrev pub code_of : Kind → ℕ
code_of kind.Read = 0
code_of kind.Write1 = 1
code_of kind.Write2 = 2
code_of kind.Call = 3
code_of kind.Let = 4
code_of kind.Synch = 5
code_of kind.Hold = 6
code_of kind.Join = 7
code_of kind.Equal1 = 8
code_of kind.Equal2 = 9
code_of kind.If = 10
code_of kind.And = 11
code_of kind.Not = 12
code_of kind.Test = 13
code_of kind.Body = 14
code_of kind.Signal = 15

abbrev pub kinds : List Kind
kinds =
    kind.Read ∷ kind.Write1 ∷ kind.Write2 ∷ kind.Call ∷ kind.Let ∷ kind.Synch ∷ kind.Hold ∷ kind.Join ∷ kind.Equal1 ∷ kind.Equal2
    ∷ kind.If ∷ kind.And ∷ kind.Not ∷ kind.Test ∷ kind.Body ∷ kind.Signal ∷ []

unfoldable pub kind_of : ℕ → Kind
kind_of n = get_or kinds n kind.Read

unfoldable pub pack_of : Frame → Packed
pack_of f =
    record {
      top = (((f.count % 16 * 32 + f.member % 32) * 1024 + f.second % 1024) * 1024 + f.first % 1024) * 16 + code_of f.kind;
      environment = f.environment;
      arguments = f.arguments;
    }

unfoldable pub unpack_of : ℕ → ℕ → ℕ → Frame
unpack_of top environment arguments =
    record {
      kind = kind_of (top % 16);
      first = top / 16 % 1024;
      second = top / 16384 % 1024;
      member = top / 16777216 % 32;
      count = top / 536870912 % 16;
      environment = environment;
      arguments = arguments;
    }

abbrev pub framed : Kind → ℕ → ℕ → ℕ → ℕ → Frame
framed k a b m environment = record { kind = k; first = a; second = b; member = m; count = 0; environment = environment; arguments = 0 }

abbrev pub let_frame : ℕ → ℕ → ℕ → Frame
let_frame x j environment = record { kind = kind.Let; first = j; second = 0; member = 0; count = x; environment = environment; arguments = 0 }

abbrev pub second_frame : Kind → Frame → ℕ → Frame
second_frame k f v = record { kind = k; first = 0; second = 0; member = f.member; count = 0; environment = f.environment; arguments = v }

abbrev pub collected : Frame → ℕ → Frame
collected f v = record {
  kind = kind.Call;
  first = f.first;
  second = 0;
  member = f.member;
  count = f.count % 16 + 1;
  environment =
      f.environment;
  arguments = bind_of f.arguments f.count v;
}

abbrev pub rest_of : Frame → ℕ → Frame
rest_of f j = record { kind = kind.Call; first = j; second = 0; member = f.member; count = f.count; environment = f.environment; arguments = f.arguments }
