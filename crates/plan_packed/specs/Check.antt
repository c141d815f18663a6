-- The answer for a plan (document 01, "Who can cause a refusal"). Assumes nothing.
use Rattle.std.specs.Prelude.{ℕ, List, [], ◌∷◌}
use Rattle.std.proofs.Math.Option.{Option}
use Rattle.format.specs.Refusal.{Refusal, Check, check, check_whole, first_refusal}
use Rattle.plan_packed.specs.Format.{procedures, terms}
use Rattle.plan_packed.specs.Refusals.{wrong_length, wrong_header, wrong_procedure, wrong_term, wrongly_sorted, not_named_once, uses_unbound_slot}

-- "The place is the lowest procedure for 3 and 7; the lowest term for 4 to 6 [..]; [..] 0 for every other number"
unfoldable pub checks : List ℕ → List Check
unfolding wrong_length wrong_header wrong_procedure wrong_term wrongly_sorted not_named_once uses_unbound_slot procedures terms
checks b =
    check_whole 1 (wrong_length b)
    ∷ check_whole 2 (wrong_header b)
    ∷ check 3 (procedures b) (wrong_procedure b)
    ∷ check 4 (terms b) (wrong_term b)
    ∷ check 5 (terms b) (wrongly_sorted b)
    ∷ check 6 (terms b) (not_named_once b)
    ∷ check 7 (procedures b) (uses_unbound_slot b)
    ∷ []

-- the refusal of a plan; none for a plan that passes
unfoldable pub refusal : List ℕ → Option Refusal
unfolding checks first_refusal
refusal b = first_refusal (checks b)
