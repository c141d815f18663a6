-- The charge by what a play into an area of 12,288 bytes answers: it is refused by 1 to 9 alone, and its cents are those of its run. Assumes nothing.
use Prim.Native.Nat.{ℕ, ◌*◌, ◌≤◌}
use native.Mathlib.Omega.{arith}
use mathlib.Core.Path.{◌≡◌, refl, sym, ap, ◌∙◌}
use mathlib.Core.Bool.{Bool, true≢false}
use mathlib.Core.List.{List}
use mathlib.Core.Option.{Option, some, none}
use lib.ListN.{length}
use borrow.Author.Tests.{le-ltb}
use Rattle.format.specs.Refusal.{Refusal, lowest, refuse, or_else, first_refusal}
use Rattle.format.proofs.LowestLaws.{whole_none}
use Rattle.plan_packed.specs.Trees.{program_of}
use Rattle.std.specs.Prelude.{Ok, Err}
use Rattle.refusals.specs.declared.Refusal as code
use Rattle.refusals.specs.Numbers.{refusal_of}
use Rattle.plan_refusals.proofs.Stages.{Checked}
use Rattle.rules.specs.Run as run
use Rattle.rules.specs.Play as play
use Rattle.rules.specs.Play.{short_area, schedule_refusal, play_refusal, played, played_by, run_of}
use Rattle.run_schedule_refusals.specs.Inner.Checks.{area_checks}
use Rattle.run_refusals.proofs.RefusalChain.{play_stages}
use Rattle.run_refusals.proofs.Passed.{scheduled}
use Rattle.play.specs.Played.{Played}
use Rattle.play.specs.Answer.{stop_of, outcome_of, answered_by, answered}
use Rattle.play.proofs.Ran.{not_refused, ran_is, outcome_is}
use Rattle.answers.specs.Answer.{Answer, value, refused, answer_by}
use Rattle.charge.specs.Charge.{price_by, charge_of, charged}

-- no schedule that passes 8 needs more than 12,288 bytes
pub long_area : (plan schedule area : List ℕ) → 12288 ≤ length area → play_refusal plan schedule area ≡ schedule_refusal plan schedule
unfolding refuse first_refusal
long_area plan schedule area long = play_stages plan schedule area ∙ go (schedule_refusal plan schedule) refl
  where
    go : (o : Option Refusal) → schedule_refusal plan schedule ≡ o
        → or_else (schedule_refusal plan schedule) (first_refusal (area_checks schedule area)) ≡ schedule_refusal plan schedule
    go (some r) q = rw q
    go none q =
        let few = (scheduled plan schedule q).few in
        let right : lowest (λ place. short_area schedule area) 1 ≡ none =
        whole_none (short_area schedule area) (unfold short_area in le-ltb _ (3 * length schedule) (omega arith)) in
        rw (q, right)

module _ (plan schedule area : List ℕ) (p : Played) (h : answered p ≡ played plan schedule area) (long : 12288 ≤ length area) (option : Bool) where
  -- refused
  pub refused_charge : (c : code.Refusal) → p.checked ≡ Err c → refused (refusal_of c) ≡ charged plan schedule option
  unfolding answered played played_by charged answer_by
  refused_charge c e = go (schedule_refusal plan schedule) refl
    where
      known : play.Played.refused (refusal_of c) ≡ played_by plan schedule (schedule_refusal plan schedule)
      known = ap (λ (y : Checked). answered_by y p.outcome) (sym e) ∙ h ∙ ap (played_by plan schedule) (long_area plan schedule area long)

      go : (o : Option Refusal) → schedule_refusal plan schedule ≡ o → refused (refusal_of c) ≡ charged plan schedule option
      go (some r) q =
          let y : play.Played.refused (refusal_of c) ≡ play.Played.refused r = known ∙ ap (played_by plan schedule) q in
          let w : refusal_of c ≡ r = cc in
          rw (q, w)
      go none q =
          let y : play.Played.refused (refusal_of c) ≡ played_by plan schedule none = known ∙ ap (played_by plan schedule) q in
          absurd (true≢false cc)

  -- a run
  pub ran_charge : p.checked ≡ Ok tt → (n : ℕ) → n ≡ price_by option (stop_of p.outcome.stop) p.outcome.moves
      → value n ≡ charged plan schedule option
  unfolding charged answer_by charge_of outcome_of
  ran_charge e n q =
      let none_refused : schedule_refusal plan schedule ≡ none = sym (long_area plan schedule area long)
      ∙ not_refused plan schedule area (outcome_of p.outcome) (ran_is plan schedule area p h e) in
      rw (q, none_refused) (ap (λ (x : run.Outcome). value (charge_of option x)) (outcome_is plan schedule area p h e))
