-- The records of the abstract machine in which every move has one are the moves of the defined run. Assumes nothing.
use Prim.Native.Nat.{ℕ}
use mathlib.Core.Path.{◌≡◌, refl, sym, ap, ◌∙◌}
use mathlib.Core.Bool.{true}
use mathlib.Core.List.{List, [], ◌∷◌, ◌++◌, map, foldr}
use mathlib.Core.Option.{Option, some, none}
use Rattle.plan_packed.specs.Trees.{program_of}
use Rattle.plan_packed.specs.Check.{refusal}
use Rattle.log_records.specs.Record.{Record}
use Rattle.rules.specs.Run.{MadeMove, Run, logged}
use Rattle.rules.specs.Play.{run_of}
use Rattle.side_by_side.specs.Moves.{shown, shown_moves, moves_of}
use Rattle.machine.specs.Inner.Playing as playing
use Rattle.machine.proofs.Plays.{plays}
use Rattle.refinement.proofs.Shown.{shown_in, records_of}

-- of any run of the machine
records_moves : (r : playing.Run) → records_of true r ≡ shown_moves r
unfolding records_of shown_moves
records_moves r = go r.moves
  where
    L : List Record
    L = logged r.lacked []

    one : (p : ℕ) (e : Option Record) (L : List Record) → logged (shown_in true p e) L ≡ shown p e ∷ L
    one p none L = refl
    one p (some x) L = refl

    go : (ms : List MadeMove) → foldr (λ (m : MadeMove) (L : List Record). logged (shown_in true m.thread m.entry) L) L ms
        ≡ map (λ (m : MadeMove). shown m.thread m.entry) ms ++ L
    go [] = refl
    go (m ∷ ms) = one m.thread m.entry _ ∙ ap (λ (l : List Record). shown m.thread m.entry ∷ l) (go ms)

module _ (b : List ℕ) (ok : refusal b ≡ none) (ps : List ℕ) where
  pub records_are_moves : records_of true (playing.machine_run b ps) ≡ moves_of (program_of b) ps
  unfolding moves_of
  records_are_moves = records_moves (playing.machine_run b ps) ∙ sym (ap (λ (r : Run). shown_moves r) (plays b ok ps))

  pub machine_stop : (playing.machine_run b ps).stop ≡ (run_of b ps).stop
  unfolding run_of
  machine_stop = sym (ap (λ (r : Run). r.stop) (plays b ok ps))
