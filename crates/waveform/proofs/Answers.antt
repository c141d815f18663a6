-- The answer and the area, by the refusal of the log and the length of the area. Assumes nothing.
use Prim.Native.Nat.{ℕ, ◌+◌, ◌<◌, ◌≤◌}
use native.Mathlib.Omega.{arith}
use mathlib.Core.Path.{◌≡◌, refl, sym, ap, ◌∙◌}
use mathlib.Core.Bool.{Bool, true, false, true≢false}
use mathlib.Core.List.{List, [], ◌∷◌, ◌++◌}
use mathlib.Core.Option.{Option, some, none}
use lib.ListN.{length, length-append, drop}
use borrow.Author.Tests.{lt-ltb, le-ltb, ltb-false}
use Rattle.format.specs.Refusal.{Refusal, check_whole, first_refusal, or_else, refuse, lowest}
use Rattle.format.specs.Area.{overwrite}
use Rattle.format.proofs.RefusalLaws.{both_none, refusal_append}
use Rattle.log_records.specs.Record.{Record}
use Rattle.log_records.specs.Packed.{record_count, log_of}
use Rattle.log_records.specs.Refusals.{log_checks, log_refusal}
use Rattle.log_records.proofs.RoundTrip.{count_log}
use Rattle.text.specs.Inner.Wrote.{Wrote}
use Rattle.text.proofs.Added.{added_whole}
use Rattle.answers.specs.Answer.{Answer, value, refused, answer_by}
use Rattle.text_sample_lines.specs.DataFile.{sample_lines, data_file}
use Rattle.waveform.specs.Comtrade.{file_of, short_output, comtrade_checks, comtrade_refusal, comtrade_answer, area_by, comtrade_area}

module _ (log area : List ℕ) where
  abbrev pub last : Bool → Option Refusal
  last short = first_refusal (check_whole 24 short ∷ [])

  -- ---- the refusal

  pub stages : comtrade_refusal log area ≡ or_else (log_refusal log) (last (short_output log area))
  unfolding comtrade_refusal comtrade_checks log_refusal
  stages = refusal_append (log_checks log) (check_whole 24 (short_output log area) ∷ [])

  pub refused_log : {r : Refusal} → log_refusal log ≡ some r → comtrade_refusal log area ≡ some r
  unfolding or_else
  refused_log e = stages ∙ ap (λ (o : Option Refusal). or_else o (last (short_output log area))) e

  pub refused_short : log_refusal log ≡ none → length area < length (file_of log) → comtrade_refusal log area ≡ some (record { number = 24; place = 0 })
  unfolding or_else short_output first_refusal refuse lowest
  refused_short e h =
      stages
      ∙ ap (λ (o : Option Refusal). or_else o (last (short_output log area))) e
      ∙ ap last (lt-ltb (length area) (length (file_of log)) h)

  pub not_refused : log_refusal log ≡ none → length (file_of log) ≤ length area → comtrade_refusal log area ≡ none
  unfolding or_else short_output first_refusal refuse lowest
  not_refused e h =
      stages
      ∙ ap (λ (o : Option Refusal). or_else o (last (short_output log area))) e
      ∙ ap last (le-ltb (length area) (length (file_of log)) h)

  -- ---- the answer and the area

  pub turned_away : {r : Refusal} → comtrade_refusal log area ≡ some r → (refused r ≡ comtrade_answer log area) × (area ≡ comtrade_area log area)
  unfolding comtrade_answer answer_by comtrade_area area_by
  turned_away e = (sym (ap (λ (o : Option Refusal). answer_by o (length (file_of log))) e), sym (ap (area_by log area) e))

  pub written : {after : List ℕ} {n : ℕ} → comtrade_refusal log area ≡ none → Wrote area 0 (file_of log) after n
      → (value n ≡ comtrade_answer log area) × (after ≡ comtrade_area log area)
  unfolding comtrade_answer answer_by comtrade_area area_by overwrite
  written {after} {n} e w =
      let long : n ≡ length (file_of log) = omega (arith, w.next) in (
        ap value long ∙ sym (ap (λ (o : Option Refusal). answer_by o (length (file_of log))) e),
        added_whole w ∙ ap (λ (k : ℕ). file_of log ++ drop k area) long ∙ sym (ap (area_by log area) e),
      )

  -- ---- what a length that is answered says

  long_enough : (short : Bool) → short_output log area ≡ short → last short ≡ none → length (file_of log) ≤ length area
  unfolding short_output first_refusal refuse lowest or_else
  long_enough true e h = absurd (true≢false cc)
  long_enough false e h = ltb-false (length area) (length (file_of log)) e

  pub value_means : {n : ℕ} → value n ≡ comtrade_answer log area → (log_refusal log ≡ none) × (n ≤ length area)
  unfolding comtrade_answer answer_by
  value_means {n} e = go (comtrade_refusal log area) refl e
    where
      go : (o : Option Refusal) → comtrade_refusal log area ≡ o → value n ≡ answer_by o (length (file_of log)) → (log_refusal log ≡ none) × (n ≤ length area)
      go (some r) q v = absurd (true≢false cc)
      go none q v =
          let both = both_none (log_refusal log) (last (short_output log area)) (sym stages ∙ q) in
          let long : n ≡ length (file_of log) = cc in
          (both.0, omega (arith, long_enough (short_output log area) refl both.1))

-- the lines and the end mark
pub whole_file : (log : List ℕ) → sample_lines (log_of log) (record_count log) ++ (0x1A ∷ []) ≡ file_of log
unfolding file_of data_file
whole_file log = ap (λ (n : ℕ). sample_lines (log_of log) n ++ (0x1A ∷ [])) (sym (count_log log))

pub lines_length : (log : List ℕ) → length (file_of log) ≡ length (sample_lines (log_of log) (record_count log)) + 1
lines_length log = omega (arith, ap length (whole_file log), length-append (sample_lines (log_of log) (record_count log)) (0x1A ∷ []))
