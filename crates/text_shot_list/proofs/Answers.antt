-- The text of a play, by what the entry `play` answers and leaves in the log area. Assumes nothing.
use Prim.Native.Nat.{ℕ, ◌*◌, ◌-◌}
use mathlib.Core.Path.{◌≡◌, sym, ap, ◌∙◌}
use mathlib.Core.List.{List, ◌++◌}
use lib.ListN.{take}
use Rattle.std.specs.Prelude.{Ok, Err}
use Rattle.refusals.specs.declared.Refusal as code
use Rattle.refusals.specs.Numbers.{refusal_of}
use Rattle.plan_refusals.proofs.Stages.{Checked}
use Rattle.plan_packed.specs.Trees.{program_of}
use Rattle.plan_packed.proofs.Decoded.{well_formed}
use Rattle.log_records.specs.Record.{Record}
use Rattle.log_records.specs.Packed.{log_of}
use Rattle.log_records.proofs.RoundTrip.{log_of_bytes_of}
use Rattle.rules.specs.Run.{log}
use Rattle.rules.specs.Play.{played, area_after, run_of}
use Rattle.rules.proofs.TidyRuns.{tidy_play}
use Rattle.play.specs.Played.{Played}
use Rattle.play.specs.Answer.{stop_of, outcome_of, answered_by, answered}
use Rattle.play.proofs.Ran.{passes, begins}
use Rattle.text_record_lines.specs.Lines.{record_lines}
use Rattle.text_refusal_lines.specs.Lines.{refusal_line}
use Rattle.text_last_lines.specs.Lines.{outcome_line}
use Rattle.text_shot_list.specs.Printed.{lent_area, answer_text, play_text}

module _ (plan schedule : List ℕ) (p : Played) (h : answered p ≡ played plan schedule lent_area) where
  -- the text of any answer, by its refusal
  text_is : (c : Checked) → p.checked ≡ c → answer_text (log (run_of plan schedule)) (answered_by c p.outcome) ≡ play_text plan schedule
  unfolding answered play_text
  text_is c e = ap (λ (x : Checked). answer_text (log (run_of plan schedule)) (answered_by x p.outcome)) (sym e) ∙ ap (answer_text (log (run_of plan schedule))) h

  pub refused_text : (r : code.Refusal) → p.checked ≡ Err r → refusal_line (refusal_of r) ≡ play_text plan schedule
  unfolding answer_text
  refused_text r e = text_is (Err r) e

  module _ {u : Unit {0}} (e : p.checked ≡ Ok u) (after : List ℕ) (left : after ≡ area_after plan schedule lent_area) where
    log_is : (n : ℕ) → n ≡ 3 * p.outcome.records → log_of (take (n - 0) after) ≡ log (run_of plan schedule)
    unfolding run_of
    log_is n q =
        ap log_of (begins plan schedule lent_area p h e after left n q)
        ∙ log_of_bytes_of (log (run_of plan schedule))
        (tidy_play (program_of plan) (well_formed plan (passes plan schedule lent_area p h e).plan_passes) schedule).all_tidy

    pub ran_text : (n : ℕ) → n ≡ 3 * p.outcome.records
        → record_lines 0 (log_of (take (n - 0) after)) ++ outcome_line (stop_of p.outcome.stop) p.outcome.picks p.outcome.moves
        p.outcome.records ≡ play_text plan schedule
    unfolding answer_text outcome_of
    ran_text n q =
        ap (λ (L : List Record). record_lines 0 L ++ outcome_line (stop_of p.outcome.stop) p.outcome.picks p.outcome.moves p.outcome.records)
        (log_is n q)
        ∙ text_is (Ok tt) e
