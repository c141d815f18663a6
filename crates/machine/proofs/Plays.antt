-- The machine plays every accepted plan as it is defined: the same stop, picks, moves, log, final state and outcome. Assumes nothing.
use Prim.Native.Nat.{ℕ}
use native.Mathlib.Omega.{arith}
use mathlib.Core.Path.{◌≡◌, refl, ap, ◌∙◌, subst as along}
use mathlib.Core.List.{List}
use mathlib.Core.Option.{none}
use Rattle.plan_packed.specs.Trees.{program_of}
use Rattle.plan_packed.specs.Check.{refusal}
use Rattle.plan_packed.proofs.Accepted.{accepted}
use Rattle.plan_packed.proofs.Decoded.{well_formed}
use Rattle.rules.specs.Context.{literals, plug, redex_expression}
use Rattle.rules.specs.State.{State, start}
use Rattle.rules.specs.Room.{PickAnswerOf}
use Rattle.rules.specs.Run.{Run, run, play, statuses_from, outcome_of, log}
use Rattle.rules.proofs.Decompose.{whole}
use Rattle.rules.proofs.Executed.{Reachable, reachable_start}
use Rattle.machine.specs.Inner.Machine as machine
use Rattle.machine.specs.Inner.Playing as playing
use Rattle.machine.specs.Inner.Playing.{table_of}
use Rattle.machine.proofs.Substitution.{first_slots}
use Rattle.machine.proofs.Runs.{Reached, step_reached, run_meant, run_of, run_reached, statuses_of, totals_of}
use Rattle.machine.proofs.PlanTable.{tabulates}
use Rattle.machine.proofs.StateMeaning.{state_of}

pub start_of : (table : machine.Table) → start ≡ state_of table playing.start
unfolding start playing.start whole plug redex_expression literals first_slots
start_of table = refl

module _ (b : List ℕ) (h : refusal b ≡ none) where
  -- the start, and whatever a run comes to
  pub start_reached : Reached (table_of b) (program_of b) playing.start
  unfolding playing.start
  start_reached = record {
    sorted = (tt, tt);
    roomy = record { threads8 = omega arith; objects32 = omega arith; keys256 = omega arith };
    reachable =
        along (Reachable (program_of b)) (start_of (table_of b)) (reachable_start (program_of b) (well_formed b h));
  }

  pub plays_reached : (ps : List ℕ) → Reached (table_of b) (program_of b) (playing.machine_run b ps).final
  unfolding playing.machine_run
  plays_reached ps = run_reached (table_of b) (program_of b) (well_formed b h) (tabulates b (accepted b h)) ps playing.start start_reached

  pub move_reached : (s : machine.State) (p : ℕ) (m : machine.Move) → Reached (table_of b) (program_of b) s
      → playing.step (table_of b) s p ≡ PickAnswerOf.moved m
      → Reached (table_of b) (program_of b) m.state
  move_reached = step_reached (table_of b) (program_of b) (well_formed b h) (tabulates b (accepted b h))

  -- THE MACHINE'S RUN IS THE DEFINED RUN
  pub plays : (ps : List ℕ) → play (program_of b) ps ≡ run_meant (table_of b) (playing.machine_run b ps)
  unfolding play playing.machine_run
  plays ps =
      ap (λ (s : State). run (program_of b) s ps) (start_of (table_of b))
      ∙ run_of (table_of b) (program_of b) (well_formed b h) (tabulates b (accepted b h)) ps playing.start start_reached

  pub plays_statuses : (ps : List ℕ) (p n : ℕ)
      → statuses_from (program_of b) (play (program_of b) ps).final p n ≡ playing.statuses_from (table_of b) (playing.machine_run b ps).final p n
  plays_statuses ps p n =
      ap (λ (r : Run). statuses_from (program_of b) r.final p n) (plays ps)
      ∙ statuses_of (table_of b) (program_of b) (well_formed b h) (tabulates b (accepted b h)) (playing.machine_run b ps).final (plays_reached ps) p n

  pub plays_log : (ps : List ℕ) → log (play (program_of b) ps) ≡ log (playing.machine_run b ps)
  unfolding log
  plays_log ps = ap log (plays ps)

  -- so the outcome is read off the machine's run
  pub plays_outcome : (ps : List ℕ) → outcome_of (program_of b) (play (program_of b) ps) ≡ playing.outcome_of (table_of b) (playing.machine_run b ps)
  unfolding outcome_of playing.outcome_of
  plays_outcome ps =
      ap (outcome_of (program_of b)) (plays ps)
      ∙ rw (
        statuses_of (table_of b) (program_of b) (well_formed b h) (tabulates b (accepted b h)) (playing.machine_run b ps).final (plays_reached ps) 0 8,
        totals_of (table_of b) (playing.machine_run b ps).final 0 8,
      )
