-- The two ways that a play ends: it is refused, or its run is answered. Assumes nothing.
use mathlib.Core.Path.{◌≡◌, refl, sym, ap, ◌∙◌}
use Prim.Native.Nat.{ℕ}
use mathlib.Core.List.{List}
use mathlib.Core.Option.{some, none}
use lib.ListN.{length}
use Rattle.plan_packed.specs.Format.{terms}
use Rattle.plan_refusals.specs.Answer as check
use Rattle.std.specs.Prelude.{Ok, Err}
use Rattle.refusals.specs.declared.Refusal as code
use Rattle.refusals.specs.Numbers.{refusal_of}
use Rattle.plan_refusals.proofs.Stages.{Checked}
use Rattle.rules.specs.Run as run
use Rattle.rules.specs.Play as play
use Rattle.rules.specs.Play.{play_refusal, played, played_by, area_after, area_by}
use Rattle.run_tally.specs.declared.Ran.{Ran}
use Rattle.play.specs.Played.{Played}
use Rattle.run_refusals.specs.Inner.Refused.{RefusedAs}
use Rattle.plan_packed.specs.Inner.Steps.{Loaded}
use Rattle.play.specs.Inner.RunOn.{Given, RunOn}
use Rattle.play.specs.Answer.{answered_by, answered}
use Rattle.run_refusals.proofs.Passed.{by_code}

module _ (plan schedule area : List ℕ) (x : Checked) (h : RefusedAs plan schedule (length area) (check.answered x)) where
  -- refused
  module _ (r : code.Refusal) (e : x ≡ Err r) where
    refusal_is : play_refusal plan schedule area ≡ some (refusal_of r)
    unfolding check.answered
    refusal_is = sym (h area refl) ∙ ap check.answered e

    pub refused_answer : (p : Played) → p.checked ≡ x → answered p ≡ played plan schedule area
    unfolding answered played played_by
    refused_answer p q = ap (λ (y : Checked). answered_by y p.outcome) (q ∙ e) ∙ sym (ap (played_by plan schedule) refusal_is)

    pub refused_area : area ≡ area_after plan schedule area
    unfolding area_after area_by
    refused_area = sym (ap (area_by plan schedule area) refusal_is)

  -- not refused
  module _ (e : x ≡ Ok tt) where
    refusal_none : play_refusal plan schedule area ≡ none
    unfolding check.answered
    refusal_none = sym (h area refl) ∙ ap check.answered e

    pub given : (ws : List ℕ) → Loaded plan (terms plan) ws → Given plan ws schedule area
    given ws words = let pass = by_code plan schedule area x h e in record {
      plan_passes = pass.plan_passes;
      loaded = words;
      few = pass.few;
      small =
          pass.small;
      wide = pass.wide;
    }

    module _ (r : Ran) (after : List ℕ) (ran : RunOn plan schedule area after r) where
      pub ran_answer : answered (record { checked = x; outcome = r.outcome }) ≡ played plan schedule area
      unfolding answered played played_by
      ran_answer =
          ap (λ (y : Checked). answered_by y r.outcome) e
          ∙ ap (λ (y : run.Outcome). play.Played.ran y) ran.outcome
          ∙ sym (ap (played_by plan schedule) refusal_none)

      pub ran_area : after ≡ area_after plan schedule area
      unfolding area_after area_by
      ran_area = ran.area ∙ sym (ap (area_by plan schedule area) refusal_none)
