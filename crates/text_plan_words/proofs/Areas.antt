-- An area that is long enough for every text adds no refusal. Assumes nothing.
use Prim.Native.Nat.{ℕ, ◌+◌, ◌*◌, ◌≤◌}
use native.Mathlib.Omega.{arith}
use mathlib.Core.Path.{◌≡◌, refl, sym, ap, ◌∙◌}
use mathlib.Core.List.{List}
use mathlib.Core.Option.{Option, some, none}
use lib.ListN.{length}
use Rattle.format.specs.Refusal.{Refusal, or_else}
use Rattle.plan_packed.specs.Format.{plan_length}
use Rattle.plan_packed.specs.Check.{refusal}
use Rattle.plan_packed.proofs.Accepted.{accepted}
use Rattle.plan_refusals.specs.Answer as refusals
use Rattle.std.specs.Prelude.{Ok}
use Rattle.text.specs.Inner.Wrote.{Wrote}
use Rattle.answers.specs.Answer.{Answer, answer_by}
use Rattle.plan_written.specs.Written.{written_plan}
use Rattle.plan_written.proofs.OneWay.{same_length}
use Rattle.plan_notation.specs.Text.{shown_text}
use Rattle.show.specs.Show.{show_refusal, show_answer, shown_by, show_area}
use Rattle.show.proofs.Answers as shows
use Rattle.show.proofs.Lengths.{text_few}
use Rattle.canonical.specs.Canonical.{canonical_refusal, canonical_answer, area_by, canonical_area}
use Rattle.canonical.proofs.Chain as writes
use Rattle.text_answer_lines.specs.Inner.Told.{Settled}
use Rattle.text_answer_lines.proofs.Settling.{settled_by}
use Rattle.text_plan_words.specs.Texts.{show_text, canonical_text}

-- no plan that passes is longer than 5,192 bytes
few_by : (n p t : ℕ) → n ≡ 8 + 2 * p + 5 * t → p ≤ 32 → t ≤ 1024 → n ≤ 5192
few_by n p t e few many = omega arith

pub plan_few : (b : List ℕ) → refusal b ≡ none → length b ≤ 5192
unfolding plan_length
plan_few b e = let a = accepted b e in few_by _ _ _ a.length_right a.few_procedures a.few_terms

-- ---- show

module _ (plan area : List ℕ) (long : 574501 ≤ length area) where
  show_by : (o : Option Refusal) → refusal plan ≡ o → show_refusal plan area ≡ o
  unfolding or_else
  show_by (some r) e = shows.stages plan area ∙ rw e refl
  show_by none e = shows.no_refusal plan area e (omega (arith, text_few plan e))

  show_same : show_refusal plan area ≡ refusal plan
  show_same = show_by (refusal plan) refl

  pub show_told : (x : Answer) (mid after : List ℕ) (r : ℕ) → x ≡ show_answer plan area → mid ≡ show_area plan area → Settled x mid after r
      → Wrote area 0 (show_text plan) after r
  unfolding show_text show_answer show_area shown_by
  show_told x mid after r e m s =
      settled_by (shown_text plan) area (shown_by plan area) refl (λ k. refl) (refusal plan) x mid after r (λ q. omega (arith, text_few plan q))
      (e ∙ ap (λ (o : Option Refusal). answer_by o (length (shown_text plan))) show_same) (m ∙ ap (shown_by plan area) show_same) s

-- ---- canonical

module _ (plan area : List ℕ) (long : 5192 ≤ length area) where
  write_by_lem : (o : Option Refusal) → refusal plan ≡ o → canonical_refusal plan area ≡ o
  unfolding or_else refusals.answered
  write_by_lem (some r) e = writes.stages plan area ∙ rw e refl
  write_by_lem none e = sym (writes.by_none plan area (Ok tt) (sym e) refl (omega (arith, plan_few plan e)))

  write_same : canonical_refusal plan area ≡ refusal plan
  write_same = write_by_lem (refusal plan) refl

  pub write_told : (x : Answer) (mid after : List ℕ) (r : ℕ) → x ≡ canonical_answer plan area → mid ≡ canonical_area plan area → Settled x mid after r
      → Wrote area 0 (canonical_text plan) after r
  unfolding canonical_text canonical_answer canonical_area area_by
  write_told x mid after r e m s =
      settled_by (written_plan plan) area (area_by plan area) refl (λ k. refl) (refusal plan) x mid after r
      (λ q. omega (arith, same_length plan q, plan_few plan q)) (e ∙ ap (λ (o : Option Refusal). answer_by o (length (written_plan plan))) write_same)
      (m ∙ ap (area_by plan area) write_same) s
