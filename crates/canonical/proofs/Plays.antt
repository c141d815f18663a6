-- "a written plan plays as its original under every schedule" (document 02, E5), into every log area, refusals included. Assumes nothing.
use Prim.Native.Nat.{ℕ}
use mathlib.Core.Path.{◌≡◌, refl, sym, ap, ◌∙◌}
use mathlib.Core.List.{List, [], ◌∷◌}
use mathlib.Core.Option.{Option, some, none}
use lib.ListN.{length}
use Rattle.format.specs.Refusal.{Refusal, Check, check, check_whole, or_else, first_refusal}
use Rattle.format.proofs.RefusalLaws.{refusal_append}
use Rattle.plan_packed.specs.Syntax.{Program}
use Rattle.plan_packed.specs.Trees.{program_of}
use Rattle.plan_packed.specs.Check.{checks, refusal}
use Rattle.plan_written.specs.Written.{written_plan}
use Rattle.plan_written.proofs.OneWay.{passes, same_program}
use Rattle.rules.specs.Play.{too_many_picks, wrong_pick, short_area, schedule_checks, play_checks, play_refusal, run_of, played_by, played, area_by, area_after}

-- ---- a play asks nothing of a plan but its refusal and its program

-- checks 8 and 9, and check 10
abbrev pick_checks : List ℕ → List Check
pick_checks schedule = check_whole 8 (too_many_picks schedule) ∷ check 9 (length schedule) (wrong_pick schedule) ∷ []

abbrev log_checks : List ℕ → List ℕ → List Check
log_checks schedule log = check_whole 10 (short_area schedule log) ∷ []

module _ (schedule log : List ℕ) where
  refusal_by : (plan : List ℕ)
      → play_refusal plan schedule log ≡ or_else (or_else (refusal plan) (first_refusal (pick_checks schedule))) (first_refusal (log_checks schedule log))
  unfolding play_refusal play_checks schedule_checks refusal
  refusal_by plan =
      refusal_append (schedule_checks plan schedule) (log_checks schedule log)
      ∙ ap (λ (r : Option Refusal). or_else r (first_refusal (log_checks schedule log))) (refusal_append (checks plan) (pick_checks schedule))

  module _ (plan plan' : List ℕ) (e : refusal plan ≡ refusal plan') (f : program_of plan ≡ program_of plan') where
    same_refusal : play_refusal plan schedule log ≡ play_refusal plan' schedule log
    same_refusal =
        refusal_by plan
        ∙ ap (λ (r : Option Refusal). or_else (or_else r (first_refusal (pick_checks schedule))) (first_refusal (log_checks schedule log))) e
        ∙ sym (refusal_by plan')

    answers_by : (r : Option Refusal) → played_by plan schedule r ≡ played_by plan' schedule r
    unfolding played_by run_of
    answers_by (some r) = refl
    answers_by none = rw f

    areas_by : (r : Option Refusal) → area_by plan schedule log r ≡ area_by plan' schedule log r
    unfolding area_by run_of
    areas_by (some r) = refl
    areas_by none = rw f

    same_answer : played plan schedule log ≡ played plan' schedule log
    unfolding played
    same_answer = ap (played_by plan schedule) same_refusal ∙ answers_by (play_refusal plan' schedule log)

    same_area : area_after plan schedule log ≡ area_after plan' schedule log
    unfolding area_after
    same_area = ap (area_by plan schedule log) same_refusal ∙ areas_by (play_refusal plan' schedule log)

-- ---- the written plan

pub plays_alike : (plan : List ℕ) → refusal plan ≡ none → (schedule log : List ℕ)
    → (played (written_plan plan) schedule log ≡ played plan schedule log) × (area_after (written_plan plan) schedule log ≡ area_after plan schedule log)
plays_alike plan h schedule log =
    let e = passes plan h ∙ sym h in
    let f = same_program plan h in
    (same_answer schedule log (written_plan plan) plan e f, same_area schedule log (written_plan plan) plan e f)
