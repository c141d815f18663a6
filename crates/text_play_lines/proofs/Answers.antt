-- The text of a play, by what the entry `play` answers and leaves in the log area. Assumes nothing.
use Prim.Native.Nat.{ℕ, suc, ◌*◌, ◌-◌, ◌≤◌}
use native.Mathlib.Omega.{arith}
use mathlib.Core.Path.{◌≡◌, refl, sym, ap, ◌∙◌, subst as along}
use mathlib.Core.Bool.{true≢false}
use mathlib.Core.List.{List, ◌++◌}
use mathlib.Core.Option.{Option, some, none}
use lib.ListN.{length, take, drop}
use Rattle.format.specs.Area.{overwrite}
use Rattle.format.specs.Refusal.{Refusal}
use Rattle.std.specs.Prelude.{Ok, Err}
use Rattle.refusals.specs.declared.Refusal as code
use Rattle.refusals.specs.Numbers.{refusal_of}
use Rattle.plan_refusals.proofs.Stages.{Checked}
use Rattle.plan_packed.specs.Trees.{program_of}
use Rattle.plan_packed.proofs.Decoded.{well_formed}
use Rattle.log_records.specs.Record.{Record}
use Rattle.log_records.specs.Packed.{log_of}
use Rattle.log_records.proofs.RoundTrip.{log_of_bytes_of}
use Rattle.log_order.specs.Chains.{Unordered}
use Rattle.rules.specs.Run as run
use Rattle.rules.specs.Run.{log}
use Rattle.rules.specs.Play as play
use Rattle.rules.specs.Play.{schedule_refusal, play_refusal, played, played_by, area_after, run_of}
use Rattle.rules.proofs.TidyRuns.{tidy_play}
use Rattle.run_outcome.specs.declared.Stop.{Stop}
use Rattle.run_outcome.specs.declared.Stop.TheVariants as stop
use Rattle.play.specs.Played.{Played}
use Rattle.play.specs.Answer.{stop_of, room_of, outcome_of, answered_by, answered}
use Rattle.play.proofs.Ran.{not_refused, ran_is, passes, outcome_is, stop_is, records_are, begins}
use Rattle.agreement.proofs.Agreed.{agreement}
use Rattle.charge.proofs.Charged.{long_area}
use Rattle.answers.specs.Answer.{Answer}
use Rattle.log_last_write.specs.Inner.LastWrite.{HasLast}
use Rattle.text.specs.Inner.Wrote.{Wrote}
use Rattle.text.proofs.Added.{added_as, added_whole}
use Rattle.text_record_lines.specs.Lines.{record_lines}
use Rattle.text_last_lines.specs.Lines.{outcome_line}
use Rattle.text_race_lines.specs.Lines.{unordered_lines}
use Rattle.text_race_lines.proofs.Records.{has_last, unordered_same}
use Rattle.text_play_lines.specs.Told.{shot_lines, RunTold, no_race, races, PlayTold, refuses, tells}
use Rattle.text_play_lines.specs.Inner.Written.{shots_of, WroteRun}
use Rattle.text_play_lines.proofs.Raced.{raced_unordered}

module _ (plan schedule lent area : List ℕ) (p : Played) (h : answered p ≡ played plan schedule lent) (long : 12288 ≤ length lent)
    (big : 131072 ≤ length area) where
  -- ---- refused

  pub refused_told : (c : code.Refusal) → p.checked ≡ Err c → PlayTold plan schedule area (Answer.refused (refusal_of c)) area
  unfolding answered played played_by
  refused_told c e = go (schedule_refusal plan schedule) refl
    where
      known : play.Played.refused (refusal_of c) ≡ played_by plan schedule (schedule_refusal plan schedule)
      known = ap (λ (y : Checked). answered_by y p.outcome) (sym e) ∙ h ∙ ap (played_by plan schedule) (long_area plan schedule lent long)

      go : (o : Option Refusal) → schedule_refusal plan schedule ≡ o → PlayTold plan schedule area (Answer.refused (refusal_of c)) area
      go (some r) q =
          let y : play.Played.refused (refusal_of c) ≡ play.Played.refused r = known ∙ ap (played_by plan schedule) q in
          let w : r ≡ refusal_of c = cc in
          along (λ (x : Refusal). PlayTold plan schedule area (Answer.refused x) area) w (refuses big q)
      go none q =
          let y : play.Played.refused (refusal_of c) ≡ played_by plan schedule none = known ∙ ap (played_by plan schedule) q in
          absurd (true≢false cc)

  -- ---- a run

  module _ (e : p.checked ≡ Ok tt) (after : List ℕ) (left : after ≡ area_after plan schedule lent) (n : ℕ) (q : n ≡ 3 * p.outcome.records) where
    none_refused : schedule_refusal plan schedule ≡ none
    none_refused = sym (long_area plan schedule lent long) ∙ not_refused plan schedule lent (outcome_of p.outcome) (ran_is plan schedule lent p h e)

    log_is : log_of (take (n - 0) after) ≡ log (run_of plan schedule)
    unfolding run_of
    log_is =
        ap log_of (begins plan schedule lent p h e after left n q)
        ∙ log_of_bytes_of (log (run_of plan schedule))
        (tidy_play (program_of plan) (well_formed plan (passes plan schedule lent p h e).plan_passes) schedule).all_tidy

    shots_are :
        shots_of (take (n - 0) after) p.outcome.stop p.outcome.picks p.outcome.moves p.outcome.records ≡ shot_lines
        (run_of plan schedule)
    unfolding shot_lines outcome_of run.outcome_of
    shots_are =
        ap
        (λ (L : List Record). record_lines 0 L ++ outcome_line (stop_of p.outcome.stop) p.outcome.picks p.outcome.moves
        p.outcome.records) log_is
        ∙ ap (λ (o : run.Outcome). record_lines 0 (log (run_of plan schedule)) ++ outcome_line o.stop o.picks o.moves o.records)
        (outcome_is plan schedule lent p h e)

    -- of a run that raced
    module _ (raced : (run_of plan schedule).stop ≡ run.Stop.race) where
      recorded : 1 ≤ p.outcome.records
      recorded =
          omega (
            arith,
            records_are plan schedule lent p h e,
            (agreement plan schedule (passes plan schedule lent p h e).plan_passes
                (passes plan schedule lent p h e).few).recorded raced,
          )

      last_is : suc (p.outcome.records - 1) ≡ length (log (run_of plan schedule))
      last_is = omega (arith, recorded, records_are plan schedule lent p h e)

      unordered : Unordered (program_of plan).version (log (run_of plan schedule)) (p.outcome.records - 1)
      unordered =
          raced_unordered (agreement plan schedule (passes plan schedule lent p h e).plan_passes (passes plan schedule lent p h e).few) raced
          (p.outcome.records - 1) last_is

      unordered_bytes : Unordered (program_of plan).version (log_of (take (n - 0) after)) (p.outcome.records - 1)
      unordered_bytes = along (λ (L : List Record). Unordered (program_of plan).version L (p.outcome.records - 1)) (sym log_is) unordered

    raced_by : p.outcome.stop ≡ stop.Race → (run_of plan schedule).stop ≡ run.Stop.race
    unfolding stop_of
    raced_by k = sym (stop_is plan schedule lent p h e) ∙ ap stop_of k

    pub raced_last : p.outcome.stop ≡ stop.Race → (1 ≤ p.outcome.records) × HasLast (take (n - 0) after) (p.outcome.records - 1)
    raced_last k = (recorded (raced_by k), has_last (take (n - 0) after) (p.outcome.records - 1) (unordered_bytes (raced_by k)))

    told_by : {t late : List ℕ} {r : ℕ} → Wrote area 0 t late r → RunTold (program_of plan).version (run_of plan schedule) t
        → PlayTold plan schedule area (Answer.value r) late
    unfolding overwrite
    told_by {t} {late} {r} w told =
        let m : length t ≡ r = omega (arith, w.next) in
        let whole : overwrite t area ≡ late = ap (λ (k : ℕ). t ++ drop k area) m ∙ sym (added_whole w) in
        along (λ (k : ℕ). PlayTold plan schedule area (Answer.value k) late) m
        (along (λ (l : List ℕ). PlayTold plan schedule area (Answer.value (length t)) l) whole (tells big none_refused told))

    pub ran_told : {late : List ℕ} {r : ℕ}
        → WroteRun (take (n - 0) after) p.outcome.stop p.outcome.picks p.outcome.moves p.outcome.records area late r
        → PlayTold plan schedule area (Answer.value r) late
    unfolding stop_of
    ran_told {late} {r} w = go p.outcome.stop refl
      where
        on : ((run_of plan schedule).stop ≡ run.Stop.race → ⊥) → (p.outcome.stop ≡ stop.Race → ⊥) → PlayTold plan schedule area (Answer.value r) late
        on x y = told_by (added_as shots_are (w.no_race y)) (no_race x)

        go : (s : Stop) → p.outcome.stop ≡ s → PlayTold plan schedule area (Answer.value r) late
        go stop.End k =
            on (λ x. let z : run.Stop.end ≡ run.Stop.race = ap stop_of (sym k) ∙ stop_is plan schedule lent p h e ∙ x in absurd (true≢false cc))
            (λ x. let z : stop.End ≡ stop.Race = sym k ∙ x in absurd (true≢false cc))
        go (stop.NoRoom m) k =
            on (λ x. let z : run.Stop.no_room (room_of m) ≡ run.Stop.race = ap stop_of (sym k) ∙ stop_is plan schedule lent p h e ∙ x in absurd (true≢false cc))
            (λ x. let z : stop.NoRoom m ≡ stop.Race = sym k ∙ x in absurd (true≢false cc))
        go stop.Race k =
            told_by (added_as texts_are (w.races k (program_of plan).version (unordered_bytes (raced_by k))))
            (races (raced_by k) (last_is (raced_by k)) (unordered (raced_by k)))
          where
            texts_are :
                shots_of (take (n - 0) after) p.outcome.stop p.outcome.picks p.outcome.moves p.outcome.records ++ unordered_lines
                (unordered_bytes (raced_by k))
                ≡ shot_lines (run_of plan schedule) ++ unordered_lines (unordered (raced_by k))
            texts_are =
                ap (λ (t : List ℕ). t ++ unordered_lines (unordered_bytes (raced_by k))) shots_are ∙ ap
                (λ (t : List ℕ). shot_lines (run_of plan schedule) ++ t) (unordered_same log_is (unordered_bytes (raced_by k)) (unordered (raced_by k)))
