-- Which picks can follow a run, by its outcome. Assumes nothing.
use Prim.Native.Nat.{ℕ, ◌<◌}
use mathlib.Core.Path.{◌≡◌, refl, sym, ap, ◌∙◌}
use mathlib.Core.Bool.{Bool, true, false, ◌&&◌}
use mathlib.Core.List.{List}
use mathlib.Core.Option.{Option, some, none}
use lib.ListN.{get_or}
use Rattle.plan_packed.specs.Syntax.{Program}
use Rattle.plan_packed.specs.Trees.{program_of}
use Rattle.rules.specs.State.{State}
use Rattle.rules.specs.Step.{Move, AttemptOf, Attempt, attempt}
use Rattle.rules.specs.Room.{Room, no_room_for, within_room, answer, step}
use Rattle.rules.specs.Run as run
use Rattle.rules.specs.Run.{Status, status, play}
use Rattle.rules.specs.Play.{run_of}
use Rattle.run_outcome.specs.declared.Stop.{Stop}
use Rattle.run_outcome.specs.declared.Stop.TheVariants as stop
use Rattle.run_outcome.specs.declared.ThreadState.{ThreadState}
use Rattle.run_outcome.specs.declared.ThreadState.TheVariants as state
use Rattle.run_outcome.specs.declared.Outcome.{Outcome}
use Rattle.run_open_threads.specs.Inner.Open.{is_open, absent, open_at, unstopped, open_after, LowestFrom}
use Rattle.run_open_threads.proofs.Lowest.{lowest_ext}
use Rattle.play.specs.Answer.{stop_of, status_of, outcome_of}
use Rattle.play.specs.Inner.RunOn.{OutcomeOf}
use Rattle.play.proofs.Threads.{status_of_lem}
use Rattle.listing.specs.Inner.CanFollow.{goes_on, moves_or_stops, can_follow}

-- ---- a thread that can move or stop, by its state

abbrev open_status : Status → Bool
open_status Status.absent = false
open_status (Status.finished v) = false
open_status Status.ready = true
open_status (Status.waiting w) = false
open_status (Status.stuck r) = false
open_status (Status.lacking o f) = true

by_status : (x : ThreadState) → is_open x ≡ open_status (status_of x)
unfolding status_of
by_status state.Absent = refl
by_status (state.Finished v) = refl
by_status state.Ready = refl
by_status (state.Waiting w) = refl
by_status (state.Stuck w) = refl
by_status (state.Lacking o f) = refl

within : (m : Move) (k : Option Room) → moves_or_stops (within_room m k) ≡ true
unfolding moves_or_stops within_room
within m none = refl
within m (some k) = refl

by_answer_lem : (s : State) (p : ℕ) (a : Attempt) → open_status (status a) ≡ moves_or_stops (answer s p a)
unfolding status answer moves_or_stops
by_answer_lem s p AttemptOf.absent = refl
by_answer_lem s p (AttemptOf.finished v) = refl
by_answer_lem s p (AttemptOf.waiting w) = refl
by_answer_lem s p (AttemptOf.stuck r) = refl
by_answer_lem s p (AttemptOf.lacking r) = refl
by_answer_lem s p (AttemptOf.moves m) = sym (within m (no_room_for m.rule s p m.state))

goes_on_lem : (e : Stop) → unstopped e ≡ goes_on (stop_of e)
unfolding goes_on stop_of
goes_on_lem stop.End = refl
goes_on_lem stop.Race = refl
goes_on_lem (stop.NoRoom k) = refl

-- ---- of the outcome of some picks

module _ (plan picks : List ℕ) (o : Outcome) (h : OutcomeOf plan picks o) where
  abbrev g : Program
  g = program_of plan

  pub stop_is : stop_of o.stop ≡ (play g picks).stop
  unfolding outcome_of run.outcome_of run_of
  stop_is = ap (λ (x : run.Outcome). x.stop) h

  thread_open : (k : ℕ) → k < 8 → open_at o.threads k ≡ moves_or_stops (step g (play g picks).final k)
  unfolding open_at step run_of
  thread_open k b =
      let s = (play g picks).final in
      by_status (get_or o.threads k absent).state ∙ ap open_status (status_of_lem g (run_of plan picks) o h k b) ∙ by_answer_lem s k (attempt g s k)

  pub can_is : (k : ℕ) → k < 8 → open_after o k ≡ can_follow g picks k
  unfolding open_after can_follow
  can_is k b =
      ap (λ (x : Bool). x && open_at o.threads k) (goes_on_lem o.stop ∙ ap goes_on stop_is)
      ∙ ap (λ (x : Bool). goes_on (play g picks).stop && x) (thread_open k b)

  -- the lowest that can follow
  pub lowest_follows : (from r : ℕ) → LowestFrom (open_after o) from r → LowestFrom (can_follow g picks) from r
  lowest_follows from r l = lowest_ext (open_after o) (can_follow g picks) from r can_is l
