-- A run deals with no more picks, and makes no more moves, than there are picks. Assumes nothing.
use Prim.Native.Nat.{ℕ, ◌≤◌}
use native.Mathlib.Omega.{arith}
use mathlib.Core.Path.{◌≡◌, ap}
use mathlib.Core.List.{List}
use lib.ListN.{length}
use Rattle.plan_packed.specs.Syntax.{Program}
use Rattle.plan_packed.specs.Trees.{program_of}
use Rattle.plan_packed.proofs.Decoded.{well_formed}
use Rattle.std.specs.Prelude.{Ok}
use Rattle.rules.specs.State.{State}
use Rattle.rules.specs.Run as run
use Rattle.rules.specs.Run.{Run, stopped, after_pass, after_move, instances}
use Rattle.rules.specs.Execution.{Execution, ends, passes, lacks_key_lem, no_room_lem, moves}
use Rattle.rules.specs.Play.{played, run_of}
use Rattle.rules.proofs.Executed.{play_executes}
use Rattle.play.specs.Played.{Played}
use Rattle.play.specs.Answer.{outcome_of, answered}
use Rattle.play.proofs.Ran as ran

pub few : {g : Program} {s : State} {ps : List ℕ} {r : Run} → Execution g s ps r → (r.picks ≤ length ps) × (length (instances r) ≤ length ps)
unfolding instances stopped after_pass after_move
few ends = (omega arith, omega arith)
few (passes h x) = let d = few x in (omega arith, omega arith)
few (lacks_key_lem h) = (omega arith, omega arith)
few (no_room_lem h e) = (omega arith, omega arith)
few (moves h k x) = let d = few x in (omega arith, omega arith)

-- of a play that the entry does not refuse
module _ (plan schedule area : List ℕ) (p : Played) (h : answered p ≡ played plan schedule area) (e : p.checked ≡ Ok tt) where
  pub moves_are : p.outcome.moves ≡ length (instances (run_of plan schedule))
  unfolding outcome_of run.outcome_of
  moves_are = ap (λ (o : run.Outcome). o.moves) (ran.outcome_is plan schedule area p h e)

  pub few_moves : p.outcome.moves ≤ 4096
  unfolding run_of
  few_moves =
      let a = ran.passes plan schedule area p h e in
      omega (arith, moves_are, a.few, (few (play_executes (program_of plan) (well_formed plan a.plan_passes) schedule)).1)
