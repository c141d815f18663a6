-- How many schedules are listed, up to a limit: what the entry `count` answers (document 02, E11: "list each schedule"). Assumes nothing.
use Rattle.std.specs.Prelude.{ℕ, ◌≤◌, ◌<◌, ◌≡◌, List, [], ◌∷◌, ◌++◌, length}
use Rattle.std.proofs.Math.Option.{Option, some, none}
use Rattle.format.specs.Refusal.{Refusal, check_whole, first_refusal}
use Rattle.plan_packed.specs.Trees.{program_of}
use Rattle.plan_packed.specs.Check.{checks}
use Rattle.listing.specs.WholeList.{WholeList}
use Rattle.listing_answers.specs.Interleavings.{over_bound}
use Rattle.std.specs.Prelude as code
use Rattle.refusals.specs.declared.Refusal as refused
use Rattle.refusals.specs.Numbers.{refusal_of}

-- checks 1 to 7, and 18: there is no given schedule and no area
unfoldable pub count_refused : List ℕ → ℕ → Option Refusal
unfolding checks over_bound first_refusal
count_refused plan n = first_refusal (checks plan ++ (check_whole 18 (over_bound n) ∷ []))

-- the answer: a refusal, the length of the whole list, or that it is longer than the limit
abbrev pub CountAnswer : (plan : List ℕ) → (n limit : ℕ) → code.Result (code.Option ℕ) refused.Refusal → Type 0
CountAnswer plan n limit (code.Err r) = count_refused plan n ≡ some (refusal_of r)
CountAnswer plan n limit (code.Ok (code.Some r)) =
    (count_refused plan n ≡ none) × (L : List (List ℕ)) × WholeList (program_of plan) n L × (r ≡ length L) × (r ≤ limit)
CountAnswer plan n limit (code.Ok code.None) = (count_refused plan n ≡ none) × (L : List (List ℕ)) × WholeList (program_of plan) n L × (limit < length L)
