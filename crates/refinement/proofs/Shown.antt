-- The records of a run of the abstract machine in which every move has one, or in which those have one that the rules give one. Assumes nothing.
use Prim.Native.Nat.{ℕ, ◌<◌}
use native.Mathlib.Omega.{arith}
use mathlib.Core.Path.{◌≡◌, refl}
use mathlib.Core.Bool.{Bool, true, false}
use mathlib.Core.List.{List, [], foldr}
use mathlib.Core.Option.{Option, some, none}
use lib.Dec.{eqb}
use borrow.Author.Tests.{eq-eqb, ne_eqb}
use Rattle.log_records.specs.Record.{Kind, Record, entry}
use Rattle.log_records.proofs.KindNumbers.{kind_number_lem}
use Rattle.rules.specs.Run.{MadeMove, logged, log}
use Rattle.machine.specs.Inner.Playing as playing
use Rattle.run_state.specs.declared.Entry.{Entry}
use Rattle.run_tally.specs.Inner.Tally.{shown_entry}
use Rattle.refinement.proofs.Looks.{Written, Entered}

-- the record of a move of thread p; where every move is to have one, that of a move without is a `new` record of object 0
abbrev pub shown_in : Bool → ℕ → Option Record → Option Record
shown_in false p r = r
shown_in true p none = some (entry Kind.new p 0 0 0)
shown_in true p (some r) = some r

pub entered_shown : (every : Bool) (p : ℕ) (e : Entry) (r : Option Record) → p < 8 → Entered p e r → Entered p (shown_entry every e) (shown_in every p r)
entered_shown false p e r b w = w
entered_shown true p e none b w =
    rw (eq-eqb e.kind 0 w)
    (record {
      kind = refl;
      thread = refl;
      object = refl;
      field = refl;
      value = refl;
      thread_fits = b;
      object_fits = omega arith;
      field_fits =
          omega arith;
      value_fits = omega arith;
    })
entered_shown true p e (some r) b w = rw (ne_eqb e.kind 0 (λ z. let k = kind_number_lem r.kind in let q = w.kind in omega arith)) w

-- the records of a run
unfoldable pub records_of : Bool → playing.Run → List Record
unfolding logged
records_of every r = foldr (λ (m : MadeMove) (L : List Record). logged (shown_in every m.thread m.entry) L) (logged r.lacked []) r.moves

-- those that the rules give are the log
pub records_log : (r : playing.Run) → records_of false r ≡ log r
unfolding records_of log
records_log r = refl
