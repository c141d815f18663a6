-- What a preview names is small: a thread's state, or a refusal's number and place. Assumes nothing.
use Prim.Native.Nat.{ℕ}
use mathlib.Core.Path.{◌≡◌, refl, subst}
use mathlib.Core.List.{List}
use mathlib.Core.Option.{Option, some, none}
use Rattle.format.specs.Refusal.{Refusal}
use Rattle.plan_refusals.specs.Inner.Small.{SmallCheck}
use Rattle.plan_packed.specs.Syntax.{Program}
use Rattle.plan_packed.specs.Trees.{program_of}
use Rattle.plan_packed.proofs.Decoded.{well_formed}
use Rattle.rules.specs.State.{State, start}
use Rattle.rules.specs.Step.{attempt}
use Rattle.rules.specs.Room.{PickAnswerOf, PickAnswer, step}
use Rattle.rules.specs.Run.{Stop, status, run, play}
use Rattle.rules.specs.Play.{schedule_refusal, run_of}
use Rattle.rules.proofs.Invariant.{Inv}
use Rattle.rules.proofs.Executed.{reachable_start, reachable_run}
use Rattle.rules.proofs.TidyRuns.{Roomy, tidy_play}
use Rattle.run_refusals.proofs.Passed.{scheduled}
use Rattle.preview.specs.Preview.{shown_by, shown, shown_at, shown_after, with_pick, preview_refusal, previewed_by, previewed}
use Rattle.abi_preview.specs.Inner.Small.{SmallPreview, SmallPreviewed}
use Rattle.ruqzhemil.proofs.Refusals.{small_schedule}
use Rattle.ruqzhemil.proofs.Statuses.{small_thread}

module _ (g : Program) (s : State) (I : Inv g s) (z : Roomy s) (p : ℕ) where
  small_by : (a : PickAnswer) → SmallPreview (shown_by (status (attempt g s p)) a)
  unfolding shown_by
  small_by PickAnswerOf.passed = small_thread g s I z p
  small_by (PickAnswerOf.moved m) = tt
  small_by (PickAnswerOf.race r) = tt
  small_by (PickAnswerOf.no_room k) = tt

  small_at : (e : Stop) → SmallPreview (shown_at g s p e)
  unfolding shown_at shown
  small_at Stop.end = small_by (step g s p)
  small_at Stop.race = tt
  small_at (Stop.no_room k) = tt

pub small_previewed : (plan schedule : List ℕ) (pick : ℕ) → SmallPreviewed (previewed plan schedule pick)
unfolding previewed previewed_by preview_refusal shown_after run_of play
small_previewed plan schedule pick = go (schedule_refusal plan (with_pick schedule pick)) refl
  where
    go : (o : Option Refusal) → schedule_refusal plan (with_pick schedule pick) ≡ o → SmallPreviewed (previewed_by plan schedule pick o)
    go (some r) e = subst SmallCheck e (small_schedule plan (with_pick schedule pick))
    go none e =
        let g = program_of plan in
        let P = well_formed plan (scheduled plan (with_pick schedule pick) e).plan_passes in
        small_at g (run g start schedule).final (reachable_run g P start schedule (reachable_start g P)).invariant (tidy_play g P schedule).roomy pick
        (run g start schedule).stop
