-- The texts of a play, of its threads' states, of a preview and of a log, by what their own functions answer and leave. Assumes nothing.
use Prim.Native.Nat.{ℕ, ◌*◌, ◌≤◌}
use native.Mathlib.Omega.{arith}
use mathlib.Core.Path.{◌≡◌, refl, sym, ap, ◌∙◌}
use mathlib.Core.Bool.{true≢false}
use mathlib.Core.List.{List}
use mathlib.Core.Option.{Option, some, none}
use lib.ListN.{length}
use Rattle.format.specs.Refusal.{Refusal}
use Rattle.std.specs.Prelude.{Ok, Err}
use Rattle.refusals.specs.declared.Refusal as code
use Rattle.refusals.specs.Numbers.{refusal_of}
use Rattle.plan_refusals.proofs.Stages.{Checked}
use Rattle.log_records.specs.Packed.{bytes_of}
use Rattle.log_records.proofs.RoundTrip.{length_bytes}
use Rattle.rules.specs.Run.{log}
use Rattle.rules.specs.Play as rules
use Rattle.rules.specs.Play.{schedule_refusal, play_refusal, played, played_by, area_after, area_by, run_of}
use Rattle.play.specs.Played.{Played}
use Rattle.play.specs.Answer.{outcome_of, answered_by, answered}
use Rattle.play.proofs.Ran.{not_refused, ran_is, ran_area, records_are, few_records}
use Rattle.charge.proofs.Charged.{long_area}
use Rattle.text.specs.Inner.Wrote.{Wrote}
use Rattle.text.proofs.Added.{added_as}
use Rattle.answers.specs.Answer.{Answer, value, refused}
use Rattle.text_refusal_lines.specs.Lines.{refusal_lines}
use Rattle.preview.specs.Preview.{previewed}
use Rattle.text_play_lines.specs.Told as play
use Rattle.text_play_lines.specs.Told.{PlayTold}
use Rattle.text_state_lines.specs.Told as states
use Rattle.text_state_lines.specs.Told.{states_text, StatesTold}
use Rattle.text_preview_lines.specs.Told as previews
use Rattle.text_preview_lines.specs.Told.{PreviewTold}
use Rattle.text_answer_lines.specs.Texts.{text_by}
use Rattle.text_answer_lines.specs.Inner.Told.{Told, Settled}
use Rattle.text_answer_lines.proofs.Areas.{overwritten}
use Rattle.text_answer_lines.proofs.Settling.{settled_told, tells_text}
use Rattle.text_run_words.specs.Runs as runs
use Rattle.text_run_words.specs.Runs.{PlayText, threads_text, log_text, previewed_text, preview_text}

-- a text that is fixed
fixed : {text before after : List ℕ} {r : ℕ} → Told (λ (t : List ℕ). t ≡ text) before after r → Wrote before 0 text after r
fixed t = added_as t.says t.wrote

-- ---- a play

module _ (plan schedule area : List ℕ) (long : 131072 ≤ length area) where
  play_refuses : (k : Refusal) (mid : List ℕ) → PlayTold plan schedule area (refused k) mid → PlayText plan schedule (refusal_lines k) × (mid ≡ area)
  play_refuses k mid (play.refuses h e) = (runs.PlayText.refuses e, refl)

  play_tells : (n : ℕ) (mid : List ℕ) → length mid ≡ length area → PlayTold plan schedule area (value n) mid → Told (PlayText plan schedule) area mid n
  play_tells n mid same (play.short h) = absurd (omega arith)
  play_tells n mid same (play.tells {text} h e t) = tells_text text area (runs.PlayText.tells e t) same

  pub play_told : (x : Answer) (mid after : List ℕ) (r : ℕ) → length mid ≡ length area → PlayTold plan schedule area x mid → Settled x mid after r
      → Told (PlayText plan schedule) area after r
  play_told = settled_told (PlayTold plan schedule area) play_refuses play_tells

-- ---- the states of the threads

module _ (plan schedule area : List ℕ) (long : 2048 ≤ length area) where
  abbrev States : List ℕ → Type 0
  States t = t ≡ threads_text plan schedule

  by_schedule : {o : Option Refusal} → schedule_refusal plan schedule ≡ o → text_by o (states_text plan schedule) ≡ threads_text plan schedule
  unfolding threads_text
  by_schedule e = ap (λ (y : Option Refusal). text_by y (states_text plan schedule)) (sym e)

  states_refuses : (k : Refusal) (mid : List ℕ) → StatesTold plan schedule area (refused k) mid → States (refusal_lines k) × (mid ≡ area)
  unfolding text_by
  states_refuses k mid (states.refuses h e) = (by_schedule e, refl)

  states_tells : (n : ℕ) (mid : List ℕ) → length mid ≡ length area → StatesTold plan schedule area (value n) mid → Told States area mid n
  unfolding text_by
  states_tells n mid same (states.short h) = absurd (omega arith)
  states_tells n mid same (states.tells h e) = tells_text (states_text plan schedule) area (by_schedule e) same

  pub states_told : (x : Answer) (mid after : List ℕ) (r : ℕ) → length mid ≡ length area → StatesTold plan schedule area x mid → Settled x mid after r
      → Wrote area 0 (threads_text plan schedule) after r
  states_told x mid after r same h s = fixed (settled_told (StatesTold plan schedule area) states_refuses states_tells x mid after r same h s)

-- ---- a preview

module _ (plan schedule : List ℕ) (pick : ℕ) (area : List ℕ) (long : 200 ≤ length area) where
  abbrev Shows : List ℕ → Type 0
  Shows t = t ≡ preview_text plan schedule pick

  preview_refuses : (k : Refusal) (mid : List ℕ) → PreviewTold plan schedule pick area (refused k) mid → Shows (refusal_lines k) × (mid ≡ area)
  unfolding preview_text previewed_text
  preview_refuses k mid (previews.refuses h e) = (ap (previewed_text pick) (sym e), refl)

  preview_tells : (n : ℕ) (mid : List ℕ) → length mid ≡ length area → PreviewTold plan schedule pick area (value n) mid → Told Shows area mid n
  unfolding preview_text previewed_text
  preview_tells n mid same (previews.short h) = absurd (omega arith)
  preview_tells n mid same (previews.tells {x} h e) = tells_text _ area (ap (previewed_text pick) (sym e)) same

  pub preview_told : (x : Answer) (mid after : List ℕ) (r : ℕ) → length mid ≡ length area → PreviewTold plan schedule pick area x mid
      → Settled x mid after r → Wrote area 0 (preview_text plan schedule pick) after r
  preview_told x mid after r same h s = fixed (settled_told (PreviewTold plan schedule pick area) preview_refuses preview_tells x mid after r same h s)

-- ---- a log

module _ (plan schedule area : List ℕ) (p : Played) (h : answered p ≡ played plan schedule area) (long : 12288 ≤ length area) where
  by_play : {o : Option Refusal} → play_refusal plan schedule area ≡ o → text_by o (bytes_of (log (run_of plan schedule))) ≡ log_text plan schedule
  unfolding log_text
  by_play e = ap (λ (y : Option Refusal). text_by y (bytes_of (log (run_of plan schedule)))) (sym e ∙ long_area plan schedule area long)

  pub log_refused : (c : code.Refusal) → p.checked ≡ Err c
      → (refusal_lines (refusal_of c) ≡ log_text plan schedule) × (area_after plan schedule area ≡ area)
  unfolding answered played played_by area_after area_by text_by
  log_refused c e = go (play_refusal plan schedule area) refl
    where
      known : rules.Played.refused (refusal_of c) ≡ played_by plan schedule (play_refusal plan schedule area)
      known = ap (λ (y : Checked). answered_by y p.outcome) (sym e) ∙ h

      go : (o : Option Refusal) → play_refusal plan schedule area ≡ o
          → (refusal_lines (refusal_of c) ≡ log_text plan schedule) × (area_after plan schedule area ≡ area)
      go (some r) q =
          let y : rules.Played.refused (refusal_of c) ≡ rules.Played.refused r = known ∙ ap (played_by plan schedule) q in
          let w : refusal_of c ≡ r = cc in
          (ap refusal_lines w ∙ by_play q, ap (area_by plan schedule area) q)
      go none q =
          let y : rules.Played.refused (refusal_of c) ≡ played_by plan schedule none = known ∙ ap (played_by plan schedule) q in
          absurd (true≢false cc)

  module _ (e : p.checked ≡ Ok tt) where
    pub log_few : p.outcome.records ≤ 4096
    log_few = few_records plan schedule area p h e

    pub log_told : (n : ℕ) → n ≡ 3 * p.outcome.records → (after : List ℕ) → after ≡ area_after plan schedule area
        → Wrote area 0 (log_text plan schedule) after n
    unfolding text_by
    log_told n q after left =
        let bytes = bytes_of (log (run_of plan schedule)) in
        let ran = ran_is plan schedule area p h e in
        let none_refused = not_refused plan schedule area (outcome_of p.outcome) ran in
        let count : n ≡ length bytes = omega (arith, q, records_are plan schedule area p h e, length_bytes (log (run_of plan schedule))) in
        added_as (by_play none_refused)
        (overwritten count (omega (arith, q, log_few)) (left ∙ ran_area plan schedule area (outcome_of p.outcome) ran))
