-- The area after the header, the procedures and the terms are written, and what the entry then answers. Assumes nothing.
use Prim.Native.Nat.{ℕ, ◌+◌, ◌*◌, ◌≤◌, ◌<◌}
use native.Mathlib.Omega.{arith}
use mathlib.Core.Path.{◌≡◌, sym, ap, ◌∙◌}
use mathlib.Core.List.{List}
use mathlib.Core.Option.{Option, some, none}
use lib.ListN.{length, take, get_or}
use lib.Seq.{sets}
use Rattle.format.specs.Area.{overwrite}
use Rattle.format.specs.Refusal.{Refusal}
use Rattle.plan_packed.specs.Syntax.{Procedure}
use Rattle.plan_packed.specs.Format
use Rattle.plan_packed.specs.Trees.{program_of}
use Rattle.plan_packed.specs.Check.{refusal}
use Rattle.plan_refusals.specs.Answer as refusals
use Rattle.plan_refusals.proofs.Stages.{Checked}
use Rattle.refusals.specs.declared.Refusal as code
use Rattle.refusals.specs.Numbers.{refusal_of}
use Rattle.std.specs.Prelude.{Ok, Err}
use Rattle.plan_written.specs.Written.{written_plan}
use Rattle.plan_written.proofs.Passes.{count_is}
use Rattle.plan_written.proofs.OneWay.{same_length}
use Rattle.plan_written.proofs.ReadBack.{heads, whole_length}
use Rattle.plan_writer.proofs.Plans.{both, plan_whole}
use Rattle.answers.specs.Answer.{answered, value, answer_by}
use Rattle.canonical.specs.Canonical.{canonical_refusal, canonical_answer, area_by, canonical_area}
use Rattle.canonical.specs.Inner.Begun.{trees_written}
use Rattle.canonical.proofs.Chain.{passes_both}
use Rattle.canonical.proofs.HeaderBytes.{first_eight}
use Rattle.canonical.proofs.Procedures.{rest_all}

-- ---- the area

pub area_whole : (plan area : List ℕ) → ((j : ℕ) → get_or plan j 0 < 256) → refusal plan ≡ none → length plan ≤ length area
    → trees_written plan 0 0 (sets area 0 (take 8 plan)) ≡ overwrite (written_plan plan) area
unfolding written_plan
area_whole plan area small h long =
    let n = Format.procedures plan in
    ap (λ (l : List ℕ). trees_written plan 0 0 (sets area 0 l)) (first_eight plan small h)
    ∙ ap (λ (ds : List Procedure). both 8 (8 + 2 * n + 5 * 0) 0 ds (sets area 0 (heads (program_of plan)))) (rest_all plan)
    ∙ plan_whole (program_of plan) n area (count_is plan h) (omega (arith, same_length plan h, count_is plan h, whole_length (program_of plan)))

-- ---- the answer

module _ (plan area : List ℕ) where
  pub refused_answer : (r : Checked) (c : code.Refusal) → refusals.answered r ≡ canonical_refusal plan area → r ≡ Err c
      → (answered (Err c) ≡ canonical_answer plan area) × (area ≡ canonical_area plan area)
  unfolding refusals.answered canonical_answer answer_by canonical_area area_by
  refused_answer r c e q =
      let s : canonical_refusal plan area ≡ some (refusal_of c) = sym e ∙ ap refusals.answered q in
      (sym (ap (λ (o : Option Refusal). answer_by o (length (written_plan plan))) s), sym (ap (area_by plan area) s))

  pub passed_none : (r : Checked) {u : Unit {0}} → refusals.answered r ≡ canonical_refusal plan area → r ≡ Ok u → canonical_refusal plan area ≡ none
  unfolding refusals.answered
  passed_none r e q = sym e ∙ ap refusals.answered q

  pub written_answer : {area₁ : List ℕ} → canonical_refusal plan area ≡ none → area₁ ≡ overwrite (written_plan plan) area
      → (answered (Ok (length plan)) ≡ canonical_answer plan area) × (area₁ ≡ canonical_area plan area)
  unfolding canonical_answer answer_by canonical_area area_by
  written_answer s e = (
    ap value (sym (same_length plan (passes_both plan area s).0))
        ∙ sym (ap (λ (o : Option Refusal). answer_by o (length (written_plan plan))) s),
    e ∙ sym (ap (area_by plan area) s),
  )
