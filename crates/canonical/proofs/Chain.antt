-- The refusal is the plan's, or that of the output area. Assumes nothing.
use Prim.Native.Nat.{ℕ, ◌≤◌, ◌<◌}
use mathlib.Core.Path.{◌≡◌, sym, ap, ◌∙◌}
use mathlib.Core.List.{List, [], ◌∷◌}
use mathlib.Core.Option.{some, none}
use lib.Dec.{lit<}
use lib.ListN.{length}
use borrow.Author.Tests.{lt-ltb, le-ltb, ltb-false}
use Rattle.format.specs.Refusal.{Check, check_whole, or_else, lowest, refuse, first_refusal}
use Rattle.format.proofs.LowestLaws.{whole, whole_none}
use Rattle.format.proofs.RefusalLaws.{refusal_append, both_none, head_pass, none_is_pass}
use Rattle.plan_packed.specs.Check.{checks, refusal}
use Rattle.plan_refusals.specs.Answer.{answered}
use Rattle.plan_refusals.proofs.Stages.{Checked, refused_first, passed_first, told}
use Rattle.refusals.specs.declared.Refusal as code
use Rattle.refusals.specs.declared.Reason.TheVariants.{PlanArea}
use Rattle.std.specs.Prelude.{Ok, Err}
use Rattle.canonical.specs.Canonical.{short_output, canonical_checks, canonical_refusal}

-- check 13
abbrev pub output_checks : List ℕ → List ℕ → List Check
output_checks plan area = check_whole 13 (short_output plan area) ∷ []

module _ (plan area : List ℕ) where
  pub stages : canonical_refusal plan area ≡ or_else (refusal plan) (first_refusal (output_checks plan area))
  unfolding canonical_refusal canonical_checks refusal
  stages = refusal_append (checks plan) (output_checks plan area)

  -- the plan is refused
  pub by_plan : (r : Checked) (c : code.Refusal) → answered r ≡ refusal plan → r ≡ Err c → answered r ≡ canonical_refusal plan area
  by_plan r c e q = refused_first _ _ r c e q ∙ sym stages

  -- the plan passes, and the area is too short
  pub by_area : (h : Checked) {u : Unit {0}} (c : code.Refusal) → answered h ≡ refusal plan → h ≡ Ok u → length area < length plan
      → c ≡ record { reason = PlanArea; place = 0 } → answered (Err c) ≡ canonical_refusal plan area
  unfolding answered refuse first_refusal short_output
  by_area h c e q l p =
      let m : lowest (λ place. short_output plan area) 1 ≡ some 0 = whole (short_output plan area) (lt-ltb (length area) (length plan) l) in
      passed_first _ _ h (Err c) e q (told p ∙ sym (rw m)) ∙ sym stages

  -- it is long enough
  pub by_none : (h : Checked) {u : Unit {0}} → answered h ≡ refusal plan → h ≡ Ok u → length plan ≤ length area → answered h ≡ canonical_refusal plan area
  unfolding answered refuse first_refusal short_output
  by_none h e q l =
      let m : lowest (λ place. short_output plan area) 1 ≡ none = whole_none (short_output plan area) (le-ltb (length area) (length plan) l) in
      passed_first _ _ h h e q (ap answered q ∙ sym (rw m)) ∙ sym stages

  -- nothing turns the plan away: it passes, and the area is long enough
  pub passes_both : canonical_refusal plan area ≡ none → (refusal plan ≡ none) × (length plan ≤ length area)
  unfolding short_output
  passes_both h =
      let n = both_none (refusal plan) (first_refusal (output_checks plan area)) (sym stages ∙ h) in
      (n.0, ltb-false (length area) (length plan) ((head_pass ((none_is_pass (output_checks plan area)).0 n.1)).right 0 (lit< tt)))
