-- What a plan, a schedule and a log area are that nothing refuses. Assumes nothing.
use Prim.Native.Nat.{ℕ, ◌+◌, ◌*◌, ◌≤◌, ◌<◌}
use native.Mathlib.Omega.{arith}
use mathlib.Core.Path.{◌≡◌, refl, sym, ◌∙◌}
use mathlib.Core.List.{List}
use mathlib.Core.Option.{none}
use lib.ListN.{length, get_or}
use borrow.Author.Tests.{ltb-false}
use Rattle.format.specs.Refusal.{first_refusal}
use Rattle.format.proofs.RefusalLaws.{both_none, head_pass, tail_pass, none_is_pass}
use Rattle.plan_packed.specs.Format.{procedures, terms, plan_length}
use Rattle.plan_packed.specs.Check.{refusal}
use Rattle.plan_refusals.specs.Answer.{answered}
use Rattle.std.specs.Prelude.{Ok}
use Rattle.plan_refusals.proofs.Stages.{Checked, passed_none}
use Rattle.plan_packed.proofs.Accepted.{accepted}
use Rattle.rules.specs.Play.{too_many_picks, wrong_pick, short_area, schedule_refusal, play_refusal}
use Rattle.run_schedule_refusals.specs.Inner.Checks.{pick_checks, area_checks}
use Rattle.run_refusals.specs.Inner.Refused.{RefusedAs}
use Rattle.run_refusals.proofs.RefusalChain.{schedule_stages, play_stages}

-- ---- a schedule on a plan

pub record Scheduled (plan schedule : List ℕ) : Type 0 where
  pub plan_passes : refusal plan ≡ none
  pub few : length schedule ≤ 4096
  pub small : (j : ℕ) → j < length schedule → get_or schedule j 0 ≤ 7

pub scheduled : (plan schedule : List ℕ) → schedule_refusal plan schedule ≡ none → Scheduled plan schedule
unfolding too_many_picks wrong_pick
scheduled plan schedule e =
    let a = both_none (refusal plan) (first_refusal (pick_checks schedule)) (sym (schedule_stages plan schedule) ∙ e) in
    let p = (none_is_pass (pick_checks schedule)).0 a.1 in
    record {
      plan_passes = a.0;
      few = ltb-false 4096 (length schedule) ((head_pass p).right 0 (omega arith));
      small = λ j h. ltb-false 7 (get_or schedule j 0) ((head_pass (tail_pass p)).right j h);
    }

-- what the code's refusal says, where it is none
pub scheduled_by_code : (plan schedule : List ℕ) (r : Checked) {u : Unit {0}} → answered r ≡ schedule_refusal plan schedule → r ≡ Ok u → Scheduled plan schedule
scheduled_by_code plan schedule r h e = scheduled plan schedule (passed_none _ r h e)

-- ---- a play

pub record Passed (plan schedule area : List ℕ) : Type 0 where
  pub plan_passes : refusal plan ≡ none
  pub few : length schedule ≤ 4096
  pub small : (j : ℕ) → j < length schedule → get_or schedule j 0 ≤ 7
  pub wide : 3 * length schedule ≤ length area

pub passed : (plan schedule area : List ℕ) → play_refusal plan schedule area ≡ none → Passed plan schedule area
unfolding short_area
passed plan schedule area e =
    let a = both_none (schedule_refusal plan schedule) (first_refusal (area_checks schedule area)) (sym (play_stages plan schedule area) ∙ e) in
    let s = scheduled plan schedule a.0 in
    let p = (none_is_pass (area_checks schedule area)).0 a.1 in
    record {
      plan_passes = s.plan_passes;
      few = s.few;
      small = s.small;
      wide = ltb-false (length area) (3 * length schedule) ((head_pass p).right 0 (omega arith));
    }

-- an accepted plan's numbers lie inside it
pub record Inside (plan : List ℕ) : Type 0 where
  pub few_procedures : procedures plan ≤ 32
  pub few_terms : terms plan ≤ 1024
  pub long : length plan ≡ 8 + 2 * procedures plan + 5 * terms plan

pub inside : (plan : List ℕ) → refusal plan ≡ none → Inside plan
unfolding plan_length
inside plan e = let a = accepted plan e in record { few_procedures = a.few_procedures; few_terms = a.few_terms; long = a.length_right }

-- what the code's refusal says, where it is none
pub by_code : (plan schedule area : List ℕ) (r : Checked) {u : Unit {0}} → RefusedAs plan schedule (length area) (answered r) → r ≡ Ok u → Passed plan schedule area
by_code plan schedule area r h e = passed plan schedule area (passed_none _ r (h area refl) e)
