-- The two ways that a preview ends: it is refused, or it is shown. Assumes nothing.
use Prim.Native.Nat.{ℕ, ◌*◌, ◌≤◌}
use native.Mathlib.Omega.{arith}
use mathlib.Core.Path.{◌≡◌, sym, ap, ◌∙◌}
use mathlib.Core.List.{List}
use mathlib.Core.Option.{some, none}
use lib.ListN.{length, length-replicate}
use Rattle.plan_packed.specs.Format.{terms}
use Rattle.plan_packed.specs.Inner.Steps.{Loaded}
use Rattle.plan_refusals.specs.Answer as check
use Rattle.std.specs.Prelude.{Result, Ok, Err}
use Rattle.refusals.specs.declared.Refusal.{Refusal}
use Rattle.plan_refusals.proofs.Stages.{Checked}
use Rattle.rules.specs.Play.{schedule_refusal}
use Rattle.run_refusals.proofs.Passed.{scheduled_by_code}
use Rattle.play.specs.Inner.RunOn.{Given}
use Rattle.run_last_pick.specs.declared.Preview.{Preview}
use Rattle.preview.specs.Preview as preview
use Rattle.preview.specs.Preview.{with_pick, preview_refusal, previewed_by, previewed}
use Rattle.preview.specs.PlaysAs.{PlaysIfShown}
use Rattle.preview.specs.Answer.{answered, AsLogged}
use Rattle.preview.specs.Inner.Shown.{inner_log, Shown}
use Rattle.preview.proofs.PlaysAs.{previewed_plays}

-- the contract of `preview`, where its answer is the defined one
pub whole : (plan schedule : List ℕ) (pick : ℕ) (r : Result Preview Refusal) → answered r ≡ previewed plan schedule pick → AsLogged r
    → (answered r ≡ previewed plan schedule pick) × (PlaysIfShown plan schedule pick (answered r) × AsLogged r)
whole plan schedule pick r h l = (h, (λ x e. previewed_plays plan schedule pick x (sym h ∙ e), l))

module _ (plan schedule : List ℕ) (pick : ℕ) (x : Checked) (h : check.answered x ≡ schedule_refusal plan (with_pick schedule pick)) where
  pub refused_answer : (r : Refusal) → x ≡ Err r → answered (Err r) ≡ previewed plan schedule pick
  unfolding previewed previewed_by preview_refusal check.answered
  refused_answer r e = ap (previewed_by plan schedule pick) (sym (ap check.answered e) ∙ h)

  module _ (e : x ≡ Ok tt) where
    pub given : (ws : List ℕ) → Loaded plan (terms plan) ws → Given plan ws (with_pick schedule pick) inner_log
    unfolding inner_log
    given ws words =
        let s = scheduled_by_code plan (with_pick schedule pick) x h e in
        let n : length inner_log ≡ 12288 = length-replicate {A = ℕ} 12288 0 in
        record { plan_passes = s.plan_passes; loaded = words; few = s.few; small = s.small; wide = omega (arith, s.few, n) }

    pub shown_answer : (r : Preview) → Shown plan schedule pick r → answered (Ok r) ≡ previewed plan schedule pick
    unfolding previewed previewed_by preview_refusal check.answered
    shown_answer r s = ap preview.Previewed.shows s.answer ∙ ap (previewed_by plan schedule pick) (sym (ap check.answered e) ∙ h)
