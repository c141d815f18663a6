-- Playing a schedule with a pick added does what the preview says, and nothing else that could be said of the pick fits the two runs. Assumes nothing.
use Prim.Native.Nat.{ℕ, ◌+◌}
use native.Mathlib.Omega.{arith}
use mathlib.Core.Path.{◌≡◌, refl, ap, sym, ◌∙◌, subst as along}
use mathlib.Core.Bool.{true≢false}
use mathlib.Core.List.{List, [], ◌∷◌, append-nil}
use mathlib.Core.Option.{Option, some, none}
use Rattle.format.specs.Refusal.{Refusal}
use Rattle.plan_packed.specs.Syntax.{Program}
use Rattle.plan_packed.specs.Trees.{program_of}
use Rattle.plan_packed.proofs.WellFormed.{WellFormedProgram}
use Rattle.plan_packed.proofs.Decoded.{well_formed}
use Rattle.log_records.specs.Record.{Record}
use Rattle.rules.specs.State.{State, start}
use Rattle.rules.specs.Rules.{Moves}
use Rattle.rules.specs.Step.{Move, AttemptOf, Attempt, attempt}
use Rattle.rules.specs.Room.{PassedOver, Room, no_room_for, PickAnswerOf, PickAnswer, within_room, answer, step}
use Rattle.rules.specs.Run.{Stop, Run, Status, status, after_pass, after_move, stopped, resume, run, play}
use Rattle.rules.specs.Play.{run_of}
use Rattle.rules.proofs.Equivalence.{Described, described, complete, complete_lacks, complete_passed}
use Rattle.rules.proofs.Progress.{Ruled, unless_ruled, ruled}
use Rattle.rules.proofs.Executed.{Reachable, reachable_start, reachable_run, over_passed}
use Rattle.rules.proofs.RunAppend.{and_then, run_stopped, pick_meets}
use Rattle.run_refusals.proofs.Passed.{Scheduled, scheduled}
use Rattle.preview.specs.Preview.{Preview, shown_by, shown, shown_at, shown_after, with_pick, preview_refusal, Previewed, previewed_by, previewed}
use Rattle.preview.specs.PlaysAs.{one_pick_more, stopped_next, PlaysAs, STOPPED, PASSED, MOVED, RACE, NO-ROOM, PlaysIfShown}

-- the rest of a run that has no more picks
abbrev nothing_more : State → Run
nothing_more s = stopped Stop.end none s

pub stopped_next_lem : (r : Run) (e : Stop) (lacked : Option Record) → stopped_next r e lacked ≡ and_then r (stopped e lacked r.final)
unfolding stopped
stopped_next_lem r e lacked = λ i. record { stop = e; picks = no_more i; moves = sym (append-nil r.moves) i; lacked = lacked; final = r.final }
  where
    no_more : r.picks ≡ r.picks + 0
    no_more = omega arith

-- ---- the run did not stop

module _ (g : Program) (p : ℕ) (r : Run) (ended : r.stop ≡ Stop.end) where
  -- the run after thread p's pick with this answer
  abbrev on_answer : PickAnswer → Run
  on_answer a = and_then r (resume r.final p nothing_more a)

  passed_as : {a : Attempt} → PassedOver r.final p a → PlaysAs g p r (Preview.passed (status a)) (on_answer PickAnswerOf.passed)
  unfolding resume after_pass stopped
  passed_as h = PASSED ended h

  within : (m : Move) → Moves g r.final p m.rule m.entry m.state → (x : Status) (k : Option Room) → no_room_for m.rule r.final p m.state ≡ k
      → PlaysAs g p r (shown_by x (within_room m k)) (on_answer (within_room m k))
  unfolding shown_by within_room resume after_move stopped
  within m h x none e = MOVED ended h e
  within m h x (some k) e = along (PlaysAs g p r (Preview.no_room k)) (stopped_next_lem r (Stop.no_room k) none) (NO-ROOM ended h e)

  module _ (I : Reachable g r.final) where
    met : (a : Attempt) → Described g r.final I.one_key p a → Ruled a
        → PlaysAs g p r (shown_by (status a) (answer r.final p a)) (on_answer (answer r.final p a))
    unfolding answer shown_by status resume
    met AttemptOf.absent h k = passed_as h
    met (AttemptOf.finished v) h k = passed_as h
    met (AttemptOf.waiting w) h k = passed_as h
    met (AttemptOf.stuck x) h k = passed_as (unless_ruled x _ k h)
    met (AttemptOf.lacking e) h k = along (PlaysAs g p r (Preview.race e)) (stopped_next_lem r Stop.race (some e)) (RACE ended h)
    met (AttemptOf.moves m) h k = within m h (status (AttemptOf.moves m)) (no_room_for m.rule r.final p m.state) refl

    shown_plays : PlaysAs g p r (shown g r.final p) (on_answer (step g r.final p))
    unfolding shown step
    shown_plays = met (attempt g r.final p) (described g r.final I.one_key p) (ruled g r.final I.invariant p)

-- ---- any run

module _ (g : Program) (P : WellFormedProgram g) (ps : List ℕ) (p : ℕ) where
  halted : (e : Stop) → (play g ps).stop ≡ e → (e ≡ Stop.end → ⊥) → PlaysAs g p (play g ps) (Preview.stopped e) (play g (with_pick ps p))
  unfolding play
  halted e h n =
      along (PlaysAs g p (play g ps) (Preview.stopped e)) (sym (run_stopped g start ps (p ∷ []) (λ q. n (sym h ∙ q))))
      (along (λ (x : Stop). PlaysAs g p (play g ps) (Preview.stopped x) (play g ps)) h (STOPPED (λ q. n (sym h ∙ q))))

  by_stop : (e : Stop) → (play g ps).stop ≡ e → PlaysAs g p (play g ps) (shown_at g (play g ps).final p e) (play g (with_pick ps p))
  unfolding shown_at play run
  by_stop Stop.end h =
      along (PlaysAs g p (play g ps) (shown g (play g ps).final p)) (sym (pick_meets g start ps p [] h))
      (shown_plays g p (play g ps) h (reachable_run g P start ps (reachable_start g P)))
  by_stop Stop.race h = halted Stop.race h (λ q. true≢false cc)
  by_stop (Stop.no_room k) h = halted (Stop.no_room k) h (λ q. true≢false cc)

  -- of every schedule and every pick
  pub preview_plays : PlaysAs g p (play g ps) (shown_after g (play g ps) p) (play g (with_pick ps p))
  unfolding shown_after
  preview_plays = by_stop (play g ps).stop refl

-- ---- what plays as two runs is the preview, and no other

module _ (g : Program) (p : ℕ) (r : Run) where
  stopped_shown : (e : Stop) → (e ≡ Stop.end → ⊥) → (s : State) → Preview.stopped e ≡ shown_at g s p e
  unfolding shown_at
  stopped_shown Stop.end n s = absurd (n refl)
  stopped_shown Stop.race n s = refl
  stopped_shown (Stop.no_room k) n s = refl

  ended_shown : r.stop ≡ Stop.end → shown g r.final p ≡ shown_after g r p
  unfolding shown_after shown_at
  ended_shown h = sym (ap (shown_at g r.final p) h)

  pub only_preview : {x : Preview} {t : Run} → PlaysAs g p r x t → x ≡ shown_after g r p
  unfolding shown_after shown shown_by step answer within_room status
  only_preview (STOPPED n) = stopped_shown r.stop n r.final
  only_preview (PASSED e h) = sym (rw (complete_passed g r.final p h, over_passed h)) ∙ ended_shown e
  only_preview (MOVED e h k) = sym (rw (complete g r.final p h, k)) ∙ ended_shown e
  only_preview (RACE e h) = sym (rw (complete_lacks g r.final p h)) ∙ ended_shown e
  only_preview (NO-ROOM e h k) = sym (rw (complete g r.final p h, k)) ∙ ended_shown e

  -- two that play as the same two runs are one
  pub one_preview : {x y : Preview} {t : Run} → PlaysAs g p r x t → PlaysAs g p r y t → x ≡ y
  one_preview h k = only_preview h ∙ sym (only_preview k)

-- ---- the answer to a preview

shows_is : {x y : Preview} → Previewed.shows x ≡ Previewed.shows y → x ≡ y
shows_is h = cc

module _ (plan schedule : List ℕ) (pick : ℕ) (x : Preview) (h : previewed plan schedule pick ≡ Previewed.shows x) where
  not_refused_by : (r : Option Refusal) → preview_refusal plan schedule pick ≡ r → preview_refusal plan schedule pick ≡ none
  unfolding previewed previewed_by
  not_refused_by none q = q
  not_refused_by (some r) q =
      let y : Previewed.refused r ≡ Previewed.shows x = sym (ap (previewed_by plan schedule pick) q) ∙ h in
      absurd (true≢false cc)

  -- the plan is accepted, and the schedule with the pick added
  pub shown_scheduled : Scheduled plan (with_pick schedule pick)
  unfolding preview_refusal
  shown_scheduled = scheduled plan (with_pick schedule pick) (not_refused_by (preview_refusal plan schedule pick) refl)

  pub shown_is : x ≡ shown_after (program_of plan) (run_of plan schedule) pick
  unfolding previewed previewed_by
  shown_is = shows_is (sym h ∙ ap (previewed_by plan schedule pick) (not_refused_by (preview_refusal plan schedule pick) refl))

-- of every plan, schedule and pick
pub previewed_plays : (plan schedule : List ℕ) (pick : ℕ) → PlaysIfShown plan schedule pick (previewed plan schedule pick)
unfolding run_of
previewed_plays plan schedule pick x h =
    let g = program_of plan in
    along (λ (y : Preview). PlaysAs g pick (play g schedule) y (play g (with_pick schedule pick))) (sym (shown_is plan schedule pick x h))
    (preview_plays g (well_formed plan (shown_scheduled plan schedule pick x h).plan_passes) schedule pick)
