-- Refusals of the entries that list interleavings: those of `count`, and none of a listed schedule. Assumes nothing.
use Prim.Native.Nat.{ℕ, ◌≤◌, ◌<◌}
use native.Mathlib.Omega.{arith}
use mathlib.Core.Path.{◌≡◌, refl, sym, ap, ◌∙◌}
use mathlib.Core.Bool.{Bool, true, false}
use mathlib.Core.List.{List, [], ◌∷◌, ◌++◌}
use mathlib.Core.Option.{Option, some, none}
use lib.Dec.{ltb, lit<}
use lib.ListN.{length, get_or}
use borrow.Author.Tests.{le-ltb, ltb-false}
use Rattle.format.specs.Refusal.{Refusal, Check, check, check_whole, or_else, lowest, refuse, first_refusal}
use Rattle.format.proofs.LowestLaws.{whole, whole_none}
use Rattle.format.proofs.RefusalLaws.{refusal_append, both_none, none_below, head_pass, none_is_pass}
use Rattle.plan_packed.specs.Trees.{program_of}
use Rattle.plan_packed.specs.Check.{checks, refusal}
use Rattle.rules.specs.Play.{too_many_picks, wrong_pick, schedule_checks, schedule_refusal}
use Rattle.run_schedule_refusals.specs.Inner.Checks.{pick_checks}
use Rattle.run_refusals.proofs.RefusalChain.{schedule_stages}
use Rattle.listing.specs.Listed.{Listed}
use Rattle.listing_answers.specs.Interleavings.{over_bound, short_output, first_refused, next_refused}
use Rattle.interleavings.specs.Count.{count_refused}

module _ (plan : List ℕ) (n : ℕ) where
  -- check 18
  abbrev bounds : List Check
  bounds = check_whole 18 (over_bound n) ∷ []

  count_stages : count_refused plan n ≡ or_else (refusal plan) (first_refusal bounds)
  unfolding count_refused refusal
  count_stages = refusal_append (checks plan) bounds

  -- an area that is long enough for every bound adds no refusal
  module _ (area : List ℕ) (long : 64 ≤ length area) where
    both : List Check
    both = check_whole 18 (over_bound n) ∷ check_whole 20 (short_output n area) ∷ []

    same_by : (x : Bool) → over_bound n ≡ x → first_refusal both ≡ first_refusal bounds
    unfolding both over_bound short_output refuse first_refusal
    same_by true e = let m : lowest (λ place. over_bound n) 1 ≡ some 0 = whole (over_bound n) e in rw m refl
    same_by false e =
        let m : lowest (λ place. over_bound n) 1 ≡ none = whole_none (over_bound n) e in
        let few = ltb-false 64 n e in
        let k : lowest (λ place. short_output n area) 1 ≡ none = whole_none (short_output n area) (le-ltb (length area) n (omega arith)) in
        rw (m, k) refl

    pub first_as_count : first_refused plan n area ≡ count_refused plan n
    unfolding both first_refused refusal
    first_as_count = refusal_append (checks plan) both ∙ ap (or_else (refusal plan)) (same_by (over_bound n) refl) ∙ sym count_stages

  -- what passes
  module _ (passed : count_refused plan n ≡ none) where
    stages_none : (refusal plan ≡ none) × (first_refusal bounds ≡ none)
    stages_none = both_none (refusal plan) (first_refusal bounds) (sym count_stages ∙ passed)

    pub bound_of : n ≤ 64
    unfolding over_bound
    bound_of = ltb-false 64 n ((head_pass ((none_is_pass bounds).0 stages_none.1)).right 0 (lit< tt))

    -- a listed schedule has few picks, each of a thread
    module _ (ps : List ℕ) (l : Listed (program_of plan) n ps) where
      picks_pass : first_refusal (pick_checks ps) ≡ none
      unfolding refuse first_refusal too_many_picks wrong_pick
      picks_pass =
          let m : lowest (λ place. too_many_picks ps) 1 ≡ none =
          whole_none (too_many_picks ps) (le-ltb 4096 (length ps) (omega (arith, l.at_most, bound_of))) in
          let k : lowest (wrong_pick ps) (length ps) ≡ none =
          none_below (wrong_pick ps) (length ps) (λ i h. le-ltb 7 (get_or ps i 0) (let q = l.of_eight i h in omega arith)) in
          rw (m, k) refl

      schedule_passes : schedule_refusal plan ps ≡ none
      unfolding or_else
      schedule_passes = schedule_stages plan ps ∙ rw (stages_none.0, picks_pass) refl

      pub next_passes : next_refused plan n ps ≡ none
      unfolding next_refused schedule_refusal or_else
      next_passes = refusal_append (schedule_checks plan ps) bounds ∙ rw (schedule_passes, stages_none.1) refl
