-- The moves of a run are tidy records, no more than its picks, so their bytes are read back. Assumes nothing.
use Prim.Native.Nat.{ℕ, suc, ◌≤◌, ◌<◌}
use native.Mathlib.Omega.{arith}
use mathlib.Core.Path.{◌≡◌, refl}
use mathlib.Core.List.{List, [], ◌∷◌}
use mathlib.Core.Option.{Option, some, none}
use lib.ListN.{length, get_elem?}
use Rattle.plan_packed.specs.Syntax.{Program}
use Rattle.plan_packed.proofs.WellFormed.{WellFormedProgram}
use Rattle.log_records.specs.Record.{Record}
use Rattle.log_records.proofs.Tidy.{Tidy, AllTidy}
use Rattle.rules.specs.State.{Thread, State, start}
use Rattle.rules.specs.Rules.{Rule, Moves}
use Rattle.rules.specs.Step.{Move}
use Rattle.rules.specs.Room.{no_room_for, PickAnswerOf, PickAnswer, step}
use Rattle.rules.specs.Run.{resume, run}
use Rattle.rules.proofs.StateLaws.{inside}
use Rattle.rules.proofs.Equivalence.{step_sound}
use Rattle.rules.proofs.Executed.{Reachable, reachable_start, reachable_move}
use Rattle.rules.proofs.TidyRuns.{Roomy, tidy_move, tidy_lacking}
use Rattle.side_by_side.specs.Moves.{shown, shown_moves, moves_of}
use Rattle.side_by_side.proofs.Cut.{mover}
use Rattle.side_by_side.proofs.Race.{step_lacks, roomy_start}

module _ (g : Program) (P : WellFormedProgram g) where
  -- the record of a move
  tidy_shown : (s : State) → Reachable g s → Roomy s → (p : ℕ) {R : Rule} (r : Option Record) {s' : State} → Moves g s p R r s' → no_room_for R s p s' ≡ none
      → Tidy (shown p r)
  unfolding shown
  tidy_shown s I z p (some r) mv l = (tidy_move g s I.invariant z p mv l).1
  tidy_shown s I z p none mv l =
      let t = mover mv in
      let b = inside s.threads p t.0 t.1 in
      let c = z.threads8 in
      record { thread_below = omega arith; object_below = omega arith; field_below = omega arith; value_below = omega arith; columns = refl }

  abbrev TidyMoves : List ℕ → List Record → Type 0
  TidyMoves ps L = AllTidy L × (length L ≤ length ps)

  tidy_from : (ps : List ℕ) (s : State) → Reachable g s → Roomy s → TidyMoves ps (shown_moves (run g s ps))
  unfolding run resume shown_moves
  tidy_from [] s I z = (tt, omega arith)
  tidy_from (p ∷ ps) s I z = go (step g s p) refl (λ s' I' z'. tidy_from ps s' I' z')
    where
      go : (a : PickAnswer) → step g s p ≡ a → ((s' : State) → Reachable g s' → Roomy s' → TidyMoves ps (shown_moves (run g s' ps)))
          → TidyMoves (p ∷ ps) (shown_moves (resume s p (λ z. run g z ps) a))
      go PickAnswerOf.passed e ih = let d = ih s I z in let b = d.1 in (d.0, omega arith)
      go (PickAnswerOf.race r) e ih = ((tidy_lacking g s I.invariant z p (step_lacks g P s I p r e), tt), omega arith)
      go (PickAnswerOf.no_room k) e ih = (tt, omega arith)
      go (PickAnswerOf.moved m) e ih =
          let y = step_sound g s I.one_key p m e in
          let d = ih m.state (reachable_move g P s p I y.0) (tidy_move g s I.invariant z p y.0 y.1).0 in
          let b = d.1 in
          ((tidy_shown s I z p m.entry y.0 y.1, d.0), omega arith)

  pub tidy_moves : (ps : List ℕ) → AllTidy (moves_of g ps) × (length (moves_of g ps) ≤ length ps)
  unfolding moves_of
  tidy_moves ps = tidy_from ps start (reachable_start g P) roomy_start
