-- The text of the states, by what the entry `play` answers. Assumes nothing.
use Prim.Native.Nat.{ℕ, zero, suc, ◌≤◌}
use native.Mathlib.Omega.{arith}
use mathlib.Core.Path.{◌≡◌, refl, sym, ap, ◌∙◌, subst as along}
use mathlib.Core.Bool.{true≢false}
use mathlib.Core.List.{List, ◌++◌}
use mathlib.Core.Option.{Option, some, none}
use lib.ListN.{length, length-map, drop}
use Rattle.format.specs.Area.{overwrite}
use Rattle.format.specs.Refusal.{Refusal}
use Rattle.std.specs.Prelude.{Ok, Err}
use Rattle.refusals.specs.declared.Refusal as code
use Rattle.refusals.specs.Numbers.{refusal_of}
use Rattle.plan_refusals.proofs.Stages.{Checked}
use Rattle.plan_packed.specs.Syntax.{Program}
use Rattle.plan_packed.specs.Trees.{program_of}
use Rattle.rules.specs.State.{State}
use Rattle.rules.specs.Run as run
use Rattle.run_outcome.specs.declared.Thread.{Thread}
use Rattle.rules.specs.Play as play
use Rattle.rules.specs.Play.{schedule_refusal, played, played_by, run_of}
use Rattle.play.specs.Played.{Played}
use Rattle.play.specs.Answer.{status_of, outcome_of, answered_by, answered}
use Rattle.play.proofs.Ran.{not_refused, ran_is, outcome_is}
use Rattle.charge.proofs.Charged.{long_area}
use Rattle.answers.specs.Answer.{Answer}
use Rattle.text.specs.Inner.Wrote.{Wrote}
use Rattle.text.proofs.Added.{added_as, added_whole}
use Rattle.text_state_lines.specs.Lines.{state_lines}
use Rattle.text_state_lines.specs.Told.{states_text, StatesTold, refuses, tells}
use Rattle.text_state_lines.specs.Inner.Threads.{thread_lines}
use Rattle.text_state_lines.proofs.ThreadTexts.{lines_are}

statuses_count : (g : Program) (s : State) (p n : ℕ) → length (run.statuses_from g s p n) ≡ n
unfolding run.statuses_from
statuses_count g s p zero = refl
statuses_count g s p (suc n) = ap suc (statuses_count g s (suc p) n)

module _ (plan schedule lent area : List ℕ) (p : Played) (h : answered p ≡ played plan schedule lent) (long : 12288 ≤ length lent)
    (big : 2048 ≤ length area) where
  pub refused_told : (c : code.Refusal) → p.checked ≡ Err c → StatesTold plan schedule area (Answer.refused (refusal_of c)) area
  unfolding answered played played_by
  refused_told c e = go (schedule_refusal plan schedule) refl
    where
      known : play.Played.refused (refusal_of c) ≡ played_by plan schedule (schedule_refusal plan schedule)
      known = ap (λ (y : Checked). answered_by y p.outcome) (sym e) ∙ h ∙ ap (played_by plan schedule) (long_area plan schedule lent long)

      go : (o : Option Refusal) → schedule_refusal plan schedule ≡ o → StatesTold plan schedule area (Answer.refused (refusal_of c)) area
      go (some r) q =
          let y : play.Played.refused (refusal_of c) ≡ play.Played.refused r = known ∙ ap (played_by plan schedule) q in
          let w : r ≡ refusal_of c = cc in
          along (λ (x : Refusal). StatesTold plan schedule area (Answer.refused x) area) w (refuses big q)
      go none q =
          let y : play.Played.refused (refusal_of c) ≡ played_by plan schedule none = known ∙ ap (played_by plan schedule) q in
          absurd (true≢false cc)

  module _ (e : p.checked ≡ Ok tt) where
    none_refused : schedule_refusal plan schedule ≡ none
    none_refused = sym (long_area plan schedule lent long) ∙ not_refused plan schedule lent (outcome_of p.outcome) (ran_is plan schedule lent p h e)

    -- an outcome has eight threads
    pub eight : length p.outcome.threads ≡ 8
    unfolding outcome_of run.outcome_of
    eight =
        sym (length-map p.outcome.threads (λ (t : Thread). status_of t.state))
        ∙ ap (λ (o : run.Outcome). length o.threads) (outcome_is plan schedule lent p h e)
        ∙ statuses_count (program_of plan) (run_of plan schedule).final 0 8

    text_is : thread_lines 0 p.outcome.threads ≡ states_text plan schedule
    unfolding states_text outcome_of
    text_is = lines_are 0 p.outcome.threads ∙ ap (λ (o : run.Outcome). state_lines 0 o.threads o.totals) (outcome_is plan schedule lent p h e)

    pub ran_told : {late : List ℕ} {r : ℕ} → Wrote area 0 (thread_lines 0 p.outcome.threads) late r → StatesTold plan schedule area (Answer.value r) late
    unfolding overwrite
    ran_told {late} {r} v =
        let w : Wrote area 0 (states_text plan schedule) late r = added_as text_is v in
        let m : length (states_text plan schedule) ≡ r = omega (arith, w.next) in
        let whole : overwrite (states_text plan schedule) area ≡ late = ap (λ (k : ℕ). states_text plan schedule ++ drop k area) m ∙ sym (added_whole w) in
        along (λ (k : ℕ). StatesTold plan schedule area (Answer.value k) late) m
        (along (λ (l : List ℕ). StatesTold plan schedule area (Answer.value (length (states_text plan schedule))) l) whole (tells big none_refused))
