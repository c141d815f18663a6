-- The answers: what refuses, and in which order; what is written. Assumes nothing.
use Prim.Native.Nat.{ℕ, ◌≤◌, ◌<◌}
use mathlib.Core.Path.{◌≡◌, sym, ap, ◌∙◌}
use mathlib.Core.Bool.{Bool, true, false}
use mathlib.Core.List.{List, [], ◌∷◌}
use mathlib.Core.Option.{Option, some, none}
use lib.ListN.{length}
use borrow.Author.Tests.{lt-ltb, le-ltb}
use Rattle.format.specs.Refusal.{Refusal, Check, check_whole, or_else, lowest, refuse, first_refusal}
use Rattle.format.specs.Area.{overwrite}
use Rattle.format.proofs.LowestLaws.{whole, whole_none}
use Rattle.format.proofs.RefusalLaws.{refusal_append}
use Rattle.plan_packed.specs.Trees.{program_of}
use Rattle.plan_packed.specs.Check.{checks, refusal}
use Rattle.plan_refusals.specs.Answer as check
use Rattle.std.specs.Prelude.{Ok, Err}
use Rattle.refusals.specs.declared.Refusal as code
use Rattle.refusals.specs.Numbers.{refusal_of}
use Rattle.plan_refusals.proofs.Stages.{Checked}
use Rattle.rules.specs.Play.{schedule_checks, schedule_refusal}
use Rattle.answers.specs.Answer as answer
use Rattle.listing.specs.Listed.{Listed, Following, Over}
use Rattle.listing_answers.specs.Interleavings as papers
use Rattle.listing_answers.specs.Interleavings.{over_bound, short_output, first_refused, FirstAnswer, next_refused, NextAnswer}

-- ---- checks one after the other

-- the refusal of number k
abbrev pub numbered : ℕ → Refusal
numbered k = record { number = k; place = 0 }

pub refuses : (k : ℕ) (x : Bool) (cs : List Check) → x ≡ true → first_refusal (check_whole k x ∷ cs) ≡ some (numbered k)
unfolding first_refusal refuse
refuses k x cs e = let m : lowest (λ place. x) 1 ≡ some 0 = whole x e in rw m

pub passes : (k : ℕ) (x : Bool) (cs : List Check) → x ≡ false → first_refusal (check_whole k x ∷ cs) ≡ first_refusal cs
unfolding first_refusal refuse
passes k x cs e = let m : lowest (λ place. x) 1 ≡ none = whole_none x e in rw m

pub first_or : (x y : Option Refusal) (r : Refusal) → x ≡ some r → or_else x y ≡ some r
unfolding or_else
first_or x y r e = rw e

pub then_other : (x y : Option Refusal) → x ≡ none → or_else x y ≡ y
unfolding or_else
then_other x y e = rw e

pub refused_is : (x : Option Refusal) (r : Checked) (c : code.Refusal) → check.answered r ≡ x → r ≡ Err c → x ≡ some (refusal_of c)
unfolding check.answered
refused_is x r c h e = sym h ∙ ap check.answered e

pub passed_is : (x : Option Refusal) (r : Checked) → check.answered r ≡ x → r ≡ Ok tt → x ≡ none
unfolding check.answered
passed_is x r h e = sym h ∙ ap check.answered e

-- ---- to begin

module _ (plan : List ℕ) (n : ℕ) (area : List ℕ) where
  pub first_stages : first_refused plan n area ≡ or_else (refusal plan) (first_refusal (check_whole 18 (over_bound n) ∷ check_whole 20 (short_output n area) ∷ []))
  unfolding first_refused refusal
  first_stages = refusal_append (checks plan) (check_whole 18 (over_bound n) ∷ check_whole 20 (short_output n area) ∷ [])

  module _ (r : Checked) (h : check.answered r ≡ refusal plan) where
    pub first_refused_lem : (c : code.Refusal) → r ≡ Err c → FirstAnswer plan n area (answer.refused (refusal_of c)) area
    first_refused_lem c e = FirstAnswer.REFUSED (first_stages ∙ first_or _ _ _ (refused_is _ r c h e))

    module _ (e : r ≡ Ok tt) where
      later : first_refused plan n area ≡ first_refusal (check_whole 18 (over_bound n) ∷ check_whole 20 (short_output n area) ∷ [])
      later = first_stages ∙ then_other _ _ (passed_is _ r h e)

      pub first_over_bound : 64 < n → FirstAnswer plan n area (answer.refused (numbered 18)) area
      unfolding over_bound
      first_over_bound b = FirstAnswer.REFUSED (later ∙ refuses 18 (over_bound n) _ (lt-ltb 64 n b))

      within : n ≤ 64 → first_refused plan n area ≡ first_refusal (check_whole 20 (short_output n area) ∷ [])
      unfolding over_bound
      within b = later ∙ passes 18 (over_bound n) _ (le-ltb 64 n b)

      pub first_short : n ≤ 64 → length area < n → FirstAnswer plan n area (answer.refused (numbered 20)) area
      unfolding short_output
      first_short b s = FirstAnswer.REFUSED (within b ∙ refuses 20 (short_output n area) [] (lt-ltb (length area) n s))

      pub first_none : n ≤ 64 → n ≤ length area → first_refused plan n area ≡ none
      unfolding short_output first_refusal
      first_none b s = within b ∙ passes 20 (short_output n area) [] (le-ltb (length area) n s)

-- ---- the following one

module _ (plan : List ℕ) (n : ℕ) (schedule area : List ℕ) where
  pub next_stages : next_refused plan n schedule ≡ or_else (schedule_refusal plan schedule) (first_refusal (check_whole 18 (over_bound n) ∷ []))
  unfolding next_refused schedule_refusal
  next_stages = refusal_append (schedule_checks plan schedule) (check_whole 18 (over_bound n) ∷ [])

  module _ (r : Checked) (h : check.answered r ≡ schedule_refusal plan schedule) where
    pub next_refused_lem : (c : code.Refusal) → r ≡ Err c → NextAnswer plan n schedule area (papers.Next.refused (refusal_of c)) area
    next_refused_lem c e = NextAnswer.REFUSED (next_stages ∙ first_or _ _ _ (refused_is _ r c h e))

    module _ (e : r ≡ Ok tt) where
      pub next_over_bound : 64 < n → NextAnswer plan n schedule area (papers.Next.refused (numbered 18)) area
      unfolding over_bound
      next_over_bound b = NextAnswer.REFUSED (next_stages ∙ then_other _ _ (passed_is _ r h e) ∙ refuses 18 (over_bound n) [] (lt-ltb 64 n b))

      module _ (b : n ≤ 64) where
        next_none : next_refused plan n schedule ≡ none
        unfolding over_bound first_refusal
        next_none = next_stages ∙ then_other _ _ (passed_is _ r h e) ∙ passes 18 (over_bound n) [] (le-ltb 64 n b)

        pub next_not_listed : (Listed (program_of plan) n schedule → ⊥) → NextAnswer plan n schedule area (papers.Next.refused (numbered 19)) area
        next_not_listed l = NextAnswer.NOT-LISTED next_none l

        module _ (l : Listed (program_of plan) n schedule) where
          pub next_short : length area < n → NextAnswer plan n schedule area (papers.Next.refused (numbered 20)) area
          next_short s = NextAnswer.SHORT next_none l s

          pub next_written : n ≤ length area → (qs : List ℕ) → Following (program_of plan) n schedule qs
              → NextAnswer plan n schedule area (papers.Next.written (length qs)) (overwrite qs area)
          next_written s qs f = NextAnswer.FOLLOWS next_none l s f

          pub next_over : n ≤ length area → Over (program_of plan) n schedule → NextAnswer plan n schedule area papers.Next.over area
          next_over s f = NextAnswer.OVER next_none l s f
