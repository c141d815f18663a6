-- A play that the entry does not refuse: its outcome is the run's, its records are few, and the log area begins with them. Assumes nothing.
use Prim.Native.Nat.{ℕ, ◌*◌, ◌-◌, ◌≤◌}
use native.Mathlib.Nat.{sub-zero}
use native.Mathlib.Omega.{arith}
use mathlib.Core.Path.{◌≡◌, refl, sym, ap, ◌∙◌}
use mathlib.Core.Bool.{true≢false}
use mathlib.Core.List.{List}
use mathlib.Core.Option.{Option, some, none}
use lib.ListN.{length, take}
use Rattle.format.specs.Refusal.{Refusal}
use Rattle.format.specs.Area.{overwrite}
use Rattle.format.proofs.AreaLaws.{overwrite_first, overwrite_covers}
use Rattle.plan_packed.specs.Trees.{program_of}
use Rattle.plan_packed.proofs.Decoded.{well_formed}
use Rattle.std.specs.Prelude.{Ok}
use Rattle.plan_refusals.proofs.Stages.{Checked}
use Rattle.log_records.specs.Packed.{bytes_of}
use Rattle.log_records.proofs.RoundTrip.{length_bytes}
use Rattle.rules.specs.Run as run
use Rattle.rules.specs.Run.{log}
use Rattle.rules.specs.Play as play
use Rattle.rules.specs.Play.{play_refusal, played, played_by, area_after, area_by, run_of}
use Rattle.rules.proofs.TidyRuns.{tidy_play}
use Rattle.play.specs.Played.{Played}
use Rattle.play.specs.Answer.{stop_of, outcome_of, answered_by, answered}
use Rattle.run_refusals.proofs.Passed.{Passed, passed}

-- the outcome of an answer that has one
abbrev outcome_or : run.Outcome → play.Played → run.Outcome
outcome_or other (play.Played.refused r) = other
outcome_or other (play.Played.ran o) = o

-- what has run, by the definitions alone
module _ (plan schedule area : List ℕ) (o : run.Outcome) (h : play.Played.ran o ≡ played plan schedule area) where
  not_refused_by : (x : Option Refusal) → play_refusal plan schedule area ≡ x → play_refusal plan schedule area ≡ none
  unfolding played played_by
  not_refused_by none q = q
  not_refused_by (some r) q =
      let y : play.Played.ran o ≡ play.Played.refused r = h ∙ ap (played_by plan schedule) q in
      absurd (true≢false cc)

  pub not_refused : play_refusal plan schedule area ≡ none
  not_refused = not_refused_by (play_refusal plan schedule area) refl

  pub ran_passed : Passed plan schedule area
  ran_passed = passed plan schedule area not_refused

  pub ran_outcome : o ≡ run.outcome_of (program_of plan) (run_of plan schedule)
  unfolding played played_by
  ran_outcome = ap (outcome_or o) (h ∙ ap (played_by plan schedule) not_refused)

  pub ran_area : area_after plan schedule area ≡ overwrite (bytes_of (log (run_of plan schedule))) area
  unfolding area_after area_by
  ran_area = ap (area_by plan schedule area) not_refused

-- what the entry answers
module _ (plan schedule area : List ℕ) (p : Played) (h : answered p ≡ played plan schedule area) (e : p.checked ≡ Ok tt) where
  pub ran_is : play.Played.ran (outcome_of p.outcome) ≡ played plan schedule area
  unfolding answered
  ran_is = ap (λ (y : Checked). answered_by y p.outcome) (sym e) ∙ h

  pub passes : Passed plan schedule area
  passes = ran_passed plan schedule area (outcome_of p.outcome) ran_is

  pub outcome_is : outcome_of p.outcome ≡ run.outcome_of (program_of plan) (run_of plan schedule)
  outcome_is = ran_outcome plan schedule area (outcome_of p.outcome) ran_is

  pub stop_is : stop_of p.outcome.stop ≡ (run_of plan schedule).stop
  unfolding outcome_of run.outcome_of
  stop_is = ap (λ (o : run.Outcome). o.stop) outcome_is

  pub records_are : p.outcome.records ≡ length (log (run_of plan schedule))
  unfolding outcome_of run.outcome_of
  records_are = ap (λ (o : run.Outcome). o.records) outcome_is

  -- as few as the picks
  pub few_records : p.outcome.records ≤ 4096
  unfolding run_of
  few_records = omega (arith, records_are, passes.few, (tidy_play (program_of plan) (well_formed plan passes.plan_passes) schedule).few)

  -- ---- the log area that it leaves

  module _ (after : List ℕ) (left : after ≡ area_after plan schedule area) where
    abbrev bytes : List ℕ
    bytes = bytes_of (log (run_of plan schedule))

    count : 3 * p.outcome.records ≡ length bytes
    count = ap (λ (n : ℕ). 3 * n) records_are ∙ sym (length_bytes (log (run_of plan schedule)))

    after_is : after ≡ overwrite bytes area
    after_is = left ∙ ran_area plan schedule area (outcome_of p.outcome) ran_is

    -- it has room for the records
    pub within : (n : ℕ) → n ≤ 3 * p.outcome.records → n ≤ length after
    within n q = omega (arith, q, count, ap (λ (l : List ℕ). length l) after_is, overwrite_covers bytes area)

    -- and begins with them
    pub begins : (n : ℕ) → n ≡ 3 * p.outcome.records → take (n - 0) after ≡ bytes_of (log (run_of plan schedule))
    begins n q = ap (λ (k : ℕ). take k after) (sub-zero n ∙ q ∙ count) ∙ ap (take (length bytes)) after_is ∙ overwrite_first bytes area
