-- How many moves a plan can need, or why that is not said (document 02, E12). Assumes nothing.
use Rattle.std.specs.Prelude.{ℕ, Bool, List, [], ◌∷◌, ◌++◌, eqb, ltb}
use Rattle.std.proofs.Math.Option.{Option}
use Rattle.format.specs.Refusal.{Refusal, Check, check_whole, first_refusal}
use Rattle.plan_packed.specs.Format.{terms, tag_at}
use Rattle.plan_packed.specs.Trees.{program_of}
use Rattle.plan_packed.specs.Refusals.{any_below}
use Rattle.plan_packed.specs.Check.{checks}
use Rattle.answers.specs.Answer.{Answer, answer_by}
use Rattle.costs.specs.Cost.{total}
use Rattle.costs.specs.Calls.{cyclic}

-- ---- 22: "a while occurs anywhere", tag 7

unfoldable pub has_while : List ℕ → Bool
unfolding any_below terms tag_at
has_while b = any_below (terms b) (λ t. eqb (tag_at b t) 7)

-- ---- 23: "the total is over 65,535"

unfoldable pub over_most : ℕ → Bool
over_most n = ltb 65535 n

-- ---- "Turned away, after 1 to 7: 21 calls anywhere in the plan form a cycle; 22 a while occurs anywhere; 23 the total is over 65,535."

unfoldable pub bound_checks : List ℕ → List Check
unfolding checks cyclic has_while over_most total program_of
bound_checks b =
    checks b
    ++ (check_whole 21 (cyclic (program_of b))
    ∷ check_whole 22 (has_while b)
    ∷ check_whole 23 (over_most (total (program_of b)))
    ∷ [])

-- the refusal of a plan whose moves are asked for, if there is one
unfoldable pub bound_refusal : List ℕ → Option Refusal
unfolding bound_checks first_refusal
bound_refusal b = first_refusal (bound_checks b)

-- the answer to a plan: a refusal, or "how many moves a plan can take at most"
unfoldable pub bounded : List ℕ → Answer
unfolding answer_by bound_refusal total program_of
bounded b = answer_by (bound_refusal b) (total (program_of b))
