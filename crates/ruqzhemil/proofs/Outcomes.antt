-- The numbers of a run's outcome fit their bytes. Assumes nothing.
use Prim.Native.Nat.{ℕ, ◌≤◌}
use native.Mathlib.Omega.{arith}
use mathlib.Core.Path.{◌≡◌}
use mathlib.Core.List.{List}
use mathlib.Core.Option.{none}
use lib.ListN.{length}
use Rattle.plan_packed.specs.Check.{refusal}
use Rattle.plan_packed.specs.Trees.{program_of}
use Rattle.plan_packed.proofs.Decoded.{well_formed}
use Rattle.rules.specs.State.{start}
use Rattle.rules.specs.Run.{run, play, outcome_of}
use Rattle.rules.proofs.Executed.{reachable_start, reachable_run, play_executes}
use Rattle.rules.proofs.ThreadStates.{eight_statuses}
use Rattle.rules.proofs.TidyRuns.{tidy_play}
use Rattle.play.proofs.Moves.{few}
use Rattle.abi_outcome.specs.Inner.Small.{SmallOutcome}
use Rattle.ruqzhemil.proofs.Statuses.{small_threads}

pub small_outcome : (plan ps : List ℕ) → refusal plan ≡ none → length ps ≤ 4096 → SmallOutcome (outcome_of (program_of plan) (play (program_of plan) ps))
unfolding outcome_of play
small_outcome plan ps e n =
    let g = program_of plan in
    let P = well_formed plan e in
    let t = tidy_play g P ps in
    let d = few (play_executes g P ps) in
    record {
      picks = omega (arith, d.0);
      moves = omega (arith, d.1);
      records = omega (arith, t.few);
      threads = small_threads g (run g start ps).final (reachable_run g P start ps (reachable_start g P)).invariant t.roomy 0 8;
      eight = eight_statuses g (run g start ps).final;
    }
