-- A value handed on through a volatile field, by computation: in version 1 the plain accesses before and after it are ordered; in version 0 "volatile reads
-- and writes move values and no keys", so that the run stops and the judge names the same access (document 02, E8). Assumes nothing.
use Prim.Native.Nat.{ℕ}
use mathlib.Core.Path.{◌≡◌, refl}
use mathlib.Core.List.{List, [], ◌∷◌}
use mathlib.Core.Option.{Option, some, none}
use Rattle.format.specs.Version.{Version, v0, v1}
use Rattle.plan_packed.specs.Syntax.{literal, variable, new, read, write, let_in, fork, Program}
use Rattle.rules.specs.State.{Cell, lookup}
use Rattle.rules.specs.Run.{Stop, end, race, play, log}
use Rattle.log_conflicts.proofs.FirstConflict.{first_conflict}

-- main is `let 0 = new(1, 2) in let - = fork (let - = v0.1 := null in v0.2 := v0) in let - = v0.2 in v0.1`, field 1 plain, field 2 volatile
abbrev hand_over : Version → Program
hand_over v =
    record {
      version = v;
      volatiles = 0xA0000000;
      procedures = record {
        parameters = 0;
        body = let_in (some 0) (new (1 ∷ 2 ∷ []))
            (let_in none
            (fork (let_in none (write (variable 0) 1 (literal 0)) (write (variable 0) 2 (variable 0))))
            (let_in none (read (variable 0) 2) (read (variable 0) 1)));
      } ∷ [];
    }

-- the new thread makes its two writes before the reads
abbrev picks : List ℕ
picks = 0 ∷ 0 ∷ 0 ∷ 0 ∷ 0 ∷ 1 ∷ 1 ∷ 1 ∷ 0 ∷ 0 ∷ 0 ∷ []

-- how the run ends, what the judge that is told its version names, and what the volatile field then holds
record Came : Type 0 where
  stop : Stop
  named : Option ℕ
  field : Option Cell

abbrev came : Version → Came
came v =
    let r = play (hand_over v) picks in
    record { stop = r.stop; named = first_conflict v (log r); field = lookup r.final 1 2 }

-- the keys pass: the field's set is {0, 1}
passes_in_1 : came v1 ≡ record { stop = end; named = none; field = some (record { keys = 3; value = 1 }) }
unfolding play log first_conflict lookup
passes_in_1 = refl

-- the value passes, and no key: the field's set stays {0}
stops_in_0 : came v0 ≡ record { stop = race; named = some 5; field = some (record { keys = 1; value = 1 }) }
unfolding play log first_conflict lookup
stops_in_0 = refl
