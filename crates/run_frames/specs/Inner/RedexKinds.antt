-- The redexes that move next, and their numbers: the machine that the code runs; no reader of the entries' promises needs it. Assumes nothing.
use Rattle.std.specs.Prelude.{ℕ, Bool, eqb}

pub data RedexKind : Type 0 where
  Done NoRule Run RunCondition Val Truth While Body Again New Read Write Fork Join Synch Hold Signal Waiting : RedexKind

abbrev pub number_of : RedexKind → ℕ
number_of RedexKind.Done = 0
number_of RedexKind.NoRule = 1
number_of RedexKind.Run = 2
number_of RedexKind.RunCondition = 3
number_of RedexKind.Val = 4
number_of RedexKind.Truth = 5
number_of RedexKind.While = 6
number_of RedexKind.Body = 7
number_of RedexKind.Again = 8
number_of RedexKind.New = 9
number_of RedexKind.Read = 10
number_of RedexKind.Write = 11
number_of RedexKind.Fork = 12
number_of RedexKind.Join = 13
number_of RedexKind.Synch = 14
number_of RedexKind.Hold = 15
number_of RedexKind.Signal = 16
number_of RedexKind.Waiting = 17

-- whether a number is a redex's
abbrev pub is_redex : RedexKind → ℕ → Bool
is_redex q p = eqb p (number_of q)
