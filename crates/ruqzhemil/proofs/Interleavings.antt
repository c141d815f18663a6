-- What the tools that list interleavings answer is small: the length of a schedule of at most 64 picks, or a refusal's number and place. Assumes nothing.
use Prim.Native.Nat.{ℕ, ◌≤◌, ◌<◌, ◌^◌}
use native.Mathlib.Omega.{arith}
use mathlib.Core.Path.{◌≡◌, sym, ◌∙◌, subst}
use mathlib.Core.List.{List, [], ◌∷◌}
use mathlib.Core.Option.{none}
use lib.Dec.{lit<}
use lib.ListN.{length}
use borrow.Author.Tests.{ltb-false}
use Rattle.format.specs.Refusal.{Check, check_whole, first_refusal}
use Rattle.format.proofs.RefusalLaws.{both_none, head_pass, none_is_pass}
use Rattle.plan_packed.specs.Trees.{program_of}
use Rattle.plan_packed.specs.Check.{refusal}
use Rattle.plan_refusals.specs.Inner.Small.{SmallCheck}
use Rattle.plan_refusals.proofs.Bounds.{small_checks, small_stages}
use Rattle.rules.specs.Play.{schedule_refusal}
use Rattle.answers.specs.Answer.{Answer}
use Rattle.listing.specs.Listed.{Listed}
use Rattle.listing_answers.specs.Interleavings.{over_bound, short_output, first_refused, FirstAnswer, Next, next_refused, NextAnswer}
use Rattle.listing_answers.proofs.Answers.{first_stages, next_stages}
use Rattle.abi_convention.specs.Inner.Small.{SmallAnswer}
use Rattle.abi_numbers.specs.Inner.Small.{SmallNext}
use Rattle.abi_convention.proofs.Wider.{wider}
use Rattle.ruqzhemil.proofs.Refusals.{whole, small_plan, small_schedule}

-- 18 comes first
bounded : (n : ℕ) (cs : List Check) → first_refusal (check_whole 18 (over_bound n) ∷ cs) ≡ none → n ≤ 64
unfolding over_bound
bounded n cs e = ltb-false 64 n ((head_pass ((none_is_pass (check_whole 18 (over_bound n) ∷ cs)).0 e)).right 0 (lit< tt))

few_picks : (n k : ℕ) → n ≤ 64 → k ≤ n → k < 2 ^ 32
few_picks n k h l = omega arith

module _ (plan : List ℕ) (n : ℕ) (area : List ℕ) where
  abbrev later_checks : List Check
  later_checks = check_whole 18 (over_bound n) ∷ check_whole 20 (short_output n area) ∷ []

  pub small_first : {a : Answer} {after : List ℕ} → FirstAnswer plan n area a after → SmallAnswer a
  small_first (FirstAnswer.REFUSED e) = wider (subst SmallCheck e small)
    where
      small : SmallCheck (first_refused plan n area)
      small =
          rw (first_stages plan n area)
          (small_stages (refusal plan) (first_refusal later_checks) (small_plan plan)
          (small_checks later_checks (whole 18 (omega arith), (whole 20 (omega arith), tt))))
  small_first (FirstAnswer.WRITTEN {qs} e f) =
      let passed = (both_none (refusal plan) (first_refusal later_checks) (sym (first_stages plan n area) ∙ e)).1 in
      few_picks n (length qs) (bounded n (check_whole 20 (short_output n area) ∷ []) passed) f.has.at_most

module _ (plan : List ℕ) (n : ℕ) (schedule area : List ℕ) where
  abbrev bound_check : List Check
  bound_check = check_whole 18 (over_bound n) ∷ []

  few_followed : (qs : List ℕ) → next_refused plan n schedule ≡ none → Listed (program_of plan) n qs → length qs < 2 ^ 32
  few_followed qs e h =
      let passed = (both_none (schedule_refusal plan schedule) (first_refusal bound_check) (sym (next_stages plan n schedule area) ∙ e)).1 in
      few_picks n (length qs) (bounded n [] passed) h.at_most

  pub small_next : {a : Next} {after : List ℕ} → NextAnswer plan n schedule area a after → SmallNext a
  small_next (NextAnswer.REFUSED e) = subst SmallCheck e small
    where
      small : SmallCheck (next_refused plan n schedule)
      small =
          rw (next_stages plan n schedule area)
          (small_stages (schedule_refusal plan schedule) (first_refusal bound_check) (small_schedule plan schedule)
          (small_checks bound_check (whole 18 (omega arith), tt)))
  small_next (NextAnswer.NOT-LISTED e u) = (omega arith, omega arith)
  small_next (NextAnswer.SHORT e l s) = (omega arith, omega arith)
  small_next (NextAnswer.FOLLOWS {qs} e l s f) = few_followed qs e f.has
  small_next (NextAnswer.OVER e l s o) = tt
