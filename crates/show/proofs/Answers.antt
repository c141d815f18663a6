-- The answer and the area, by what refuses. Assumes nothing.
use Prim.Native.Nat.{ℕ, ◌≤◌, ◌<◌}
use mathlib.Core.Path.{◌≡◌, refl, sym, ap, subst, ◌∙◌}
use mathlib.Core.Logic.{inl, inr}
use mathlib.Core.List.{List, [], ◌∷◌}
use mathlib.Core.Option.{Option, some, none}
use lib.ListN.{length}
use borrow.Author.Tests.{lt-ltb, le-ltb}
use Rattle.format.specs.Area.{overwrite}
use Rattle.format.specs.Refusal.{Refusal, Check, check_whole, or_else, lowest, refuse, first_refusal}
use Rattle.format.proofs.LowestLaws.{whole, whole_none}
use Rattle.format.proofs.RefusalLaws.{refusal_append}
use Rattle.plan_packed.specs.Trees.{program_of}
use Rattle.plan_packed.specs.Check.{checks, refusal}
use Rattle.plan_refusals.specs.Answer as refusals
use Rattle.plan_refusals.proofs.Stages.{Checked}
use Rattle.refusals.specs.declared.Refusal as code
use Rattle.refusals.specs.Numbers.{refusal_of}
use Rattle.std.specs.Prelude.{Result, Err}
use Rattle.answers.specs.Answer.{answered, answer_by, value, refused}
use Rattle.plan_notation.specs.Shown.{shown_plan}
use Rattle.plan_notation.specs.Layout.{laid_out}
use Rattle.plan_notation.specs.Text.{text_of_program, shown_text}
use Rattle.show.specs.Show.{short_for_text, show_checks, show_refusal, show_answer, shown_by, show_area}
use Rattle.show.specs.Inner.Begun.{TextWritten}

module _ (plan area : List ℕ) where
  abbrev pub text_checks : List Check
  text_checks = check_whole 25 (short_for_text plan area) ∷ []

  pub stages : show_refusal plan area ≡ or_else (refusal plan) (first_refusal text_checks)
  unfolding show_refusal show_checks refusal
  stages = refusal_append (checks plan) text_checks

  -- both, once the refusal is known
  pub by_refusal : (r : Refusal) → show_refusal plan area ≡ some r → (refused r ≡ show_answer plan area) × (area ≡ show_area plan area)
  unfolding show_answer answer_by show_area shown_by
  by_refusal r s = (sym (ap (λ (o : Option Refusal). answer_by o (length (shown_text plan))) s), sym (ap (shown_by plan area) s))

  pub by_none : show_refusal plan area ≡ none → (value (length (shown_text plan)) ≡ show_answer plan area) × (overwrite (shown_text plan) area ≡ show_area plan area)
  unfolding show_answer answer_by show_area shown_by
  by_none s = (sym (ap (λ (o : Option Refusal). answer_by o (length (shown_text plan))) s), sym (ap (shown_by plan area) s))

  -- the plan is refused
  pub plan_refused : (r : Checked) (c : code.Refusal) → refusals.answered r ≡ refusal plan → r ≡ Err c
      → (answered (Err c) ≡ show_answer plan area) × (area ≡ show_area plan area)
  unfolding refusals.answered or_else
  plan_refused r c e q =
      let s : refusal plan ≡ some (refusal_of c) = sym e ∙ ap refusals.answered q in by_refusal _ (stages ∙ rw s refl)

  -- the plan passes
  module _ (h : refusal plan ≡ none) where
    passed : show_refusal plan area ≡ first_refusal text_checks
    unfolding or_else
    passed = stages ∙ rw h refl

    short_refusal : length area < length (shown_text plan) → show_refusal plan area ≡ some (record { number = 25; place = 0 })
    unfolding refuse first_refusal short_for_text
    short_refusal l = let m : lowest (λ place. short_for_text plan area) 1 ≡ some 0 =
        whole (short_for_text plan area) (lt-ltb (length area) (length (shown_text plan)) l) in passed ∙ rw m refl

    pub no_refusal : length (shown_text plan) ≤ length area → show_refusal plan area ≡ none
    unfolding refuse first_refusal short_for_text
    no_refusal l = let m : lowest (λ place. short_for_text plan area) 1 ≡ none =
        whole_none (short_for_text plan area) (le-ltb (length area) (length (shown_text plan)) l) in passed ∙ rw m refl

    -- the text of its tokens is its text
    pub text_written : (ts area' : List ℕ) (r : Result ℕ code.Refusal) → ts ≡ shown_plan (program_of plan) → TextWritten ts area area' r
        → (answered r ≡ show_answer plan area) × (area' ≡ show_area plan area)
    unfolding shown_text text_of_program
    text_written ts area' r e (inl w) =
        let l = subst (λ (t : List ℕ). length area < length (laid_out t)) e w.short in
        let a = by_refusal _ (short_refusal l) in
        (ap answered w.refused ∙ a.0, w.kept ∙ a.1)
    text_written ts area' r e (inr w) =
        let a = by_none (no_refusal (subst (λ (t : List ℕ). length (laid_out t) ≤ length area) e w.long)) in
        (ap answered w.answer ∙ ap (λ (t : List ℕ). value (length (laid_out t))) e ∙ a.0, w.text ∙ ap (λ (t : List ℕ). overwrite (laid_out t) area) e ∙ a.1)
