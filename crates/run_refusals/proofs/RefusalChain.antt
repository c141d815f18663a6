-- The refusal of a schedule on a plan is the plan's, or that of the first of checks 8 and 9 that finds a fault; the refusal of a play is that one, or check
-- 10's. Assumes nothing.
use Prim.Native.Nat.{ℕ}
use mathlib.Core.Path.{◌≡◌, sym, ◌∙◌}
use mathlib.Core.List.{List}
use Rattle.format.specs.Refusal.{or_else, first_refusal}
use Rattle.format.proofs.RefusalLaws.{refusal_append}
use Rattle.plan_packed.specs.Check.{checks, refusal}
use Rattle.plan_refusals.specs.Answer.{answered}
use Rattle.plan_refusals.proofs.Stages.{Checked, refused_first, passed_first}
use Rattle.std.specs.Prelude.{Ok, Err}
use Rattle.refusals.specs.declared.Refusal.{Refusal}
use Rattle.rules.specs.Play.{schedule_checks, schedule_refusal, play_checks, play_refusal}
use Rattle.run_schedule_refusals.specs.Inner.Checks.{pick_checks, area_checks}

-- ---- of a schedule on a plan

module _ (plan schedule : List ℕ) where
  pub schedule_stages : schedule_refusal plan schedule ≡ or_else (refusal plan) (first_refusal (pick_checks schedule))
  unfolding schedule_refusal schedule_checks refusal
  schedule_stages = refusal_append (checks plan) (pick_checks schedule)

  -- the plan is refused
  pub by_plan : (r : Checked) (c : Refusal) → answered r ≡ refusal plan → r ≡ Err c → answered r ≡ schedule_refusal plan schedule
  by_plan r c e q = refused_first _ _ r c e q ∙ sym schedule_stages

  -- the plan passes
  pub by_picks : (h r : Checked) {u : Unit {0}} → answered h ≡ refusal plan → h ≡ Ok u → answered r ≡ first_refusal (pick_checks schedule)
      → answered r ≡ schedule_refusal plan schedule
  by_picks h r e q l = passed_first _ _ h r e q l ∙ sym schedule_stages

-- ---- of a play

module _ (plan schedule area : List ℕ) where
  pub play_stages : play_refusal plan schedule area ≡ or_else (schedule_refusal plan schedule) (first_refusal (area_checks schedule area))
  unfolding play_refusal play_checks schedule_refusal
  play_stages = refusal_append (schedule_checks plan schedule) (area_checks schedule area)

  -- the schedule on the plan is refused
  pub by_schedule : (r : Checked) (c : Refusal) → answered r ≡ schedule_refusal plan schedule → r ≡ Err c → answered r ≡ play_refusal plan schedule area
  by_schedule r c e q = refused_first _ _ r c e q ∙ sym play_stages

  -- it passes
  pub by_area : (h r : Checked) {u : Unit {0}} → answered h ≡ schedule_refusal plan schedule → h ≡ Ok u → answered r ≡ first_refusal (area_checks schedule area)
      → answered r ≡ play_refusal plan schedule area
  by_area h r e q l = passed_first _ _ h r e q l ∙ sym play_stages
