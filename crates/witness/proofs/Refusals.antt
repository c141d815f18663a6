-- Which refusal it is: that of checks 1 to 9, or 15, or 16. Assumes nothing.
use Prim.Native.Nat.{ℕ}
use mathlib.Core.Path.{◌≡◌, sym, ap, ◌∙◌}
use mathlib.Core.Bool.{true, false}
use mathlib.Core.List.{List, [], ◌∷◌}
use mathlib.Core.Option.{Option, some, none}
use Rattle.format.specs.Refusal.{Refusal, Check, check_whole, or_else, lowest, refuse, first_refusal}
use Rattle.format.proofs.RefusalLaws.{both_none, refusal_append}
use Rattle.format.proofs.LowestLaws.{whole, whole_none}
use Rattle.rules.specs.Play.{schedule_checks, schedule_refusal, run_of}
use Rattle.side_by_side.specs.LeftOut.{left_out}
use Rattle.answers.specs.Answer.{Answer}
use Rattle.witness.specs.Witness.{no_missing_key, race_checks, race_refusal, Witnesses, refused}

module _ (plan schedule : List ℕ) where
  -- checks 15 and 16
  abbrev pub later_checks : List Check
  later_checks = check_whole 15 (left_out plan) ∷ check_whole 16 (no_missing_key (run_of plan schedule).stop) ∷ []

  pub stages : race_refusal plan schedule ≡ or_else (schedule_refusal plan schedule) (first_refusal later_checks)
  unfolding race_refusal race_checks schedule_refusal
  stages = refusal_append (schedule_checks plan schedule) later_checks

  -- an earlier check refuses
  pub by_schedule : (r : Refusal) → schedule_refusal plan schedule ≡ some r → race_refusal plan schedule ≡ some r
  unfolding or_else
  by_schedule r e = stages ∙ ap (λ (x : Option Refusal). or_else x (first_refusal later_checks)) e

  pub no_earlier : race_refusal plan schedule ≡ none → schedule_refusal plan schedule ≡ none
  no_earlier e = (both_none (schedule_refusal plan schedule) (first_refusal later_checks) (sym stages ∙ e)).0

  module _ (s : schedule_refusal plan schedule ≡ none) where
    later : race_refusal plan schedule ≡ first_refusal later_checks
    unfolding or_else
    later = stages ∙ ap (λ (x : Option Refusal). or_else x (first_refusal later_checks)) s

    pub by_15 : left_out plan ≡ true → race_refusal plan schedule ≡ some (record { number = 15; place = 0 })
    unfolding first_refusal refuse
    by_15 e = let m : lowest (λ place. left_out plan) 1 ≡ some 0 = whole (left_out plan) e in later ∙ rw m

    module _ (l : left_out plan ≡ false) where
      m15 : lowest (λ place. left_out plan) 1 ≡ none
      m15 = whole_none (left_out plan) l

      pub by_16 : no_missing_key (run_of plan schedule).stop ≡ true → race_refusal plan schedule ≡ some (record { number = 16; place = 0 })
      unfolding first_refusal refuse
      by_16 e = let m : lowest (λ place. no_missing_key (run_of plan schedule).stop) 1 ≡ some 0 = whole (no_missing_key (run_of plan schedule).stop) e in later
          ∙ rw (m15, m)

      pub by_none : no_missing_key (run_of plan schedule).stop ≡ false → race_refusal plan schedule ≡ none
      unfolding first_refusal refuse
      by_none e = let m : lowest (λ place. no_missing_key (run_of plan schedule).stop) 1 ≡ none = whole_none (no_missing_key (run_of plan schedule).stop) e in
          later ∙ rw (m15, m)
