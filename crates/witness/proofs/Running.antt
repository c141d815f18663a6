-- What a play answers to what was written, and to the two picks that race, by the contracts of `play` and `witness` alone. Assumes nothing.
use Prim.Native.Nat.{ℕ, zero, suc, ◌*◌, ◌≤◌, ◌<◌}
use native.Mathlib.Omega.{arith}
use mathlib.Core.Path.{◌≡◌, refl, sym, ap, ◌∙◌, subst as along}
use mathlib.Core.Bool.{true≢false}
use mathlib.Core.List.{List, [], ◌∷◌, ◌++◌}
use mathlib.Core.Option.{Option, some, none}
use lib.ListN.{length, get_or, get_elem?, take}
use borrow.Author.Tests.{le-ltb}
use Rattle.format.specs.Refusal.{Refusal, or_else, first_refusal}
use Rattle.format.specs.Area.{overwrite}
use Rattle.format.proofs.AreaLaws.{overwrite_first}
use Rattle.format.proofs.RefusalLaws.{both_none, none_is_pass, none_left, and_then}
use Rattle.plan_packed.specs.Trees.{program_of}
use Rattle.plan_packed.specs.Check.{refusal}
use Rattle.rules.specs.State.{start}
use Rattle.rules.specs.Run as run
use Rattle.rules.specs.Run.{Stop}
use Rattle.rules.specs.Play as play
use Rattle.rules.specs.Play.{too_many_picks, wrong_pick, short_area, schedule_refusal, play_refusal, played, played_by, run_of}
use Rattle.rules.proofs.RunAppend.{all_dealt_with}
use Rattle.std.specs.Prelude.{Ok, Err}
use Rattle.plan_refusals.proofs.Stages.{Checked}
use Rattle.run_outcome.specs.declared.Stop as code-stop
use Rattle.run_outcome.specs.declared.Stop.TheVariants as stop
use Rattle.run_outcome.specs.declared.Outcome.{Outcome}
use Rattle.run_schedule_refusals.specs.Inner.Checks.{pick_checks, area_checks}
use Rattle.run_refusals.proofs.RefusalChain.{schedule_stages, play_stages}
use Rattle.run_refusals.proofs.Passed.{scheduled}
use Rattle.play.specs.Played.{Played}
use Rattle.play.specs.Answer.{stop_of, outcome_of, answered_by, answered}
use Rattle.play.proofs.Ran.{outcome_is, stop_is}
use Rattle.play.proofs.Moves.{moves_are}
use Rattle.side_by_side.specs.SideBySide.{Written, SideBySide}
use Rattle.side_by_side.specs.Conflict.{Conflict, HasRoom}
use Rattle.side_by_side.proofs.Plans.{plan_conflict_races}
use Rattle.answers.specs.Answer.{Answer}
use Rattle.witness.specs.Witness.{race_refusal, Witnesses, wrote}
use Rattle.witness.specs.Running.{PlaysThrough}
use Rattle.witness.proofs.Refusals.{no_earlier}

-- ---- the code's words

end_is : (s : code-stop.Stop) → stop_of s ≡ Stop.end → s ≡ stop.End
unfolding stop_of
end_is stop.End e = refl
end_is stop.Race e = absurd (true≢false cc)
end_is (stop.NoRoom k) e = absurd (true≢false cc)

race_is : (s : code-stop.Stop) → stop_of s ≡ Stop.race → s ≡ stop.Race
unfolding stop_of
race_is stop.End e = absurd (true≢false cc)
race_is stop.Race e = refl
race_is (stop.NoRoom k) e = absurd (true≢false cc)

-- an answer that has run was not refused
ran_passed : (c : Checked) (o : Outcome) (x : run.Outcome) → answered_by c o ≡ play.Played.ran x → c ≡ Ok tt
ran_passed (Ok u) o x e = refl
ran_passed (Err r) o x e = absurd (true≢false cc)

-- ---- a play that nothing refuses

module _ (plan qs log : List ℕ) (passes : refusal plan ≡ none) (few : length qs ≤ 4096) (small : (i : ℕ) → i < length qs → get_or qs i 0 ≤ 7)
    (wide : 3 * length qs ≤ length log) where
  picks_pass : first_refusal (pick_checks qs) ≡ none
  unfolding too_many_picks wrong_pick
  picks_pass =
      (none_is_pass (pick_checks qs)).1
      (and_then (record { right = λ j h. le-ltb 4096 (length qs) few }) (and_then (record { right = λ j h. le-ltb 7 (get_or qs j 0) (small j h) }) none_left))

  area_passes : first_refusal (area_checks qs log) ≡ none
  unfolding short_area
  area_passes = (none_is_pass (area_checks qs log)).1 (and_then (record { right = λ j h. le-ltb (length log) (3 * length qs) wide }) none_left)

  none_refuses : play_refusal plan qs log ≡ none
  unfolding or_else
  none_refuses =
      play_stages plan qs log ∙ ap (λ (x : Option Refusal). or_else x (first_refusal (area_checks qs log)))
      (schedule_stages plan qs ∙ ap (λ (x : Option Refusal). or_else x (first_refusal (pick_checks qs))) passes ∙ picks_pass) ∙ area_passes

  module _ (p : Played) (h : answered p ≡ played plan qs log) where
    pub runs : p.checked ≡ Ok tt
    unfolding answered played played_by
    runs = ran_passed p.checked p.outcome (run.outcome_of (program_of plan) (run_of plan qs)) (h ∙ ap (played_by plan qs) none_refuses)

-- ---- what was written

below : (l : List ℕ) → ((i n : ℕ) → get_elem? l i ≡ some n → n < 8) → (i : ℕ) → i < length l → get_or l i 0 ≤ 7
below l h i b = let z = h i (get_or l i 0) (there l i b) in omega arith
  where
    there : (l : List ℕ) (i : ℕ) → i < length l → get_elem? l i ≡ some (get_or l i 0)
    there [] i b = absurd (omega arith)
    there (x ∷ l) zero b = refl
    there (x ∷ l) (suc i) b = there l i (omega arith)

module _ (plan schedule qs log : List ℕ) (passes : refusal plan ≡ none) (few : length schedule ≤ 4096) (w : Written (program_of plan) schedule qs)
    (s : SideBySide (program_of plan) schedule qs w)
    (wide : 3 * length qs ≤ length log) (p : Played) (h : answered p ≡ played plan qs log) where
  ran : p.checked ≡ Ok tt
  ran = runs plan qs log passes (let b = s.no_longer in omega arith) (below qs s.below_8) wide p h

  its_stop : (run_of plan qs).stop ≡ Stop.end
  unfolding run_of
  its_stop = s.ends

  through : PlaysThrough p (length qs)
  unfolding outcome_of run.outcome_of run_of run.play
  through = record {
    passes = ran;
    ends = end_is p.outcome.stop (stop_is plan qs log p h ran ∙ its_stop);
    picks = ap (λ (o : run.Outcome). o.picks) (outcome_is plan qs log p h ran) ∙ all_dealt_with (program_of plan) start qs s.ends;
    moves = moves_are plan qs log p h ran ∙ s.every_pick_moves;
  }

-- a play of what was written, on a log area with room for its records, comes to its end with as many moves as picks
pub written_plays : (plan schedule area : List ℕ) {n : ℕ} {l : List ℕ} → Witnesses plan schedule area (Answer.value n) l → (log : List ℕ) → 3 * n ≤ length log
    → (p : Played)
    → answered p ≡ played plan (take n l) log → PlaysThrough p n
written_plays plan schedule area (wrote {qs} e w s le) log wide p h =
    let d = scheduled plan schedule (no_earlier plan schedule e) in
    through plan schedule qs log d.plan_passes d.few w s wide p (h ∙ ap (λ (l : List ℕ). played plan l log) (overwrite_first qs area))

-- ---- and conversely

-- where two threads' next moves conflict after a run not stopped, and the write would not stop for room: a play of the run's picks, the writer and the other
-- stops for a missing key, if it is not refused
pub conflict_plays : (plan schedule log : List ℕ) → refusal plan ≡ none → (run_of plan schedule).stop ≡ Stop.end → (p q : ℕ)
    → Conflict (program_of plan) (run_of plan schedule).final p q
    → HasRoom (program_of plan) (run_of plan schedule).final p → (r : Played) → answered r ≡ played plan (schedule ++ (p ∷ q ∷ [])) log
    → r.checked ≡ Ok tt
    → r.outcome.stop ≡ stop.Race
conflict_plays plan schedule log passes e p q c room r h k =
    race_is r.outcome.stop (stop_is plan (schedule ++ (p ∷ q ∷ [])) log r h k ∙ plan_conflict_races plan passes schedule e p q c room)
