-- What the answer says of a plan, from its bytes: no schedule makes more moves than the total, and the total is what the bodies cost. Assumes nothing.
use Prim.Native.Nat.{ℕ, zero, suc, ◌≤◌}
use native.Mathlib.Omega.{arith}
use mathlib.Core.Path.{◌≡◌, refl, sym, ◌∙◌, subst as along}
use mathlib.Core.Bool.{false, true≢false}
use mathlib.Core.List.{List, [], ◌∷◌}
use mathlib.Core.Option.{Option, some, none}
use lib.ListN.{length, get_elem?}
use borrow.Author.Tests.{ltb-false}
use Rattle.format.specs.Refusal.{Refusal, Check, check_whole, first_refusal, or_else}
use Rattle.format.proofs.RefusalLaws.{both_none, head_pass, tail_pass, none_is_pass, refusal_append}
use Rattle.run_keys.specs.Keys.{singleton}
use Rattle.plan_packed.specs.Syntax.{Expression, Arguments}
use Rattle.plan_packed.specs.Trees.{program_of}
use Rattle.plan_packed.specs.Check.{checks, refusal}
use Rattle.rules.specs.Queue.{awake}
use Rattle.rules.specs.State.{Thread, start}
use Rattle.rules.specs.Run.{outcome_of, instances}
use Rattle.rules.specs.Play.{run_of}
use Rattle.rules.proofs.Executed.{plan_executes}
use Rattle.costs.specs.Cost.{Costs, body_cost, total}
use Rattle.costs.specs.Calls.{cyclic}
use Rattle.answers.specs.Answer.{value, answer_by}
use Rattle.costs.specs.Bound.{has_while, over_most, bound_checks, bound_refusal, bounded}
use Rattle.costs.proofs.Chains.{procedure_count}
use Rattle.costs.proofs.Fixed.{fixed, total_is}
use Rattle.costs.proofs.Loopless.{Loopless}
use Rattle.costs.proofs.Measure.{measure}
use Rattle.costs.proofs.Falls.{Simple, execution_bound}
use Rattle.costs.proofs.Whileless.{bodies_loopless}

-- ---- what an answer says

-- checks 21 to 23
abbrev pub later_checks : List ℕ → List Check
later_checks b = check_whole 21 (cyclic (program_of b)) ∷ check_whole 22 (has_while b) ∷ check_whole 23 (over_most (total (program_of b))) ∷ []

-- after 1 to 7
pub bound_stages : (b : List ℕ) → bound_refusal b ≡ or_else (refusal b) (first_refusal (later_checks b))
unfolding bound_refusal bound_checks refusal
bound_stages b = refusal_append (checks b) (later_checks b)

-- a plan with a total
pub record Totalled (b : List ℕ) (n : ℕ) : Type 0 where
  pub accepted : refusal b ≡ none
  pub acyclic : cyclic (program_of b) ≡ false
  pub whileless : has_while b ≡ false
  pub most : n ≤ 65535
  pub total_of : n ≡ total (program_of b)

pub totalled : (b : List ℕ) (n : ℕ) → bounded b ≡ value n → Totalled b n
unfolding bounded answer_by over_most
totalled b n h = go (bound_refusal b) refl h
  where
    go : (r : Option Refusal) → bound_refusal b ≡ r → answer_by r (total (program_of b)) ≡ value n → Totalled b n
    go (some r) e k = absurd (true≢false cc)
    go none e k =
        let s = both_none (refusal b) (first_refusal (later_checks b)) (sym (bound_stages b) ∙ e) in
        let p = (none_is_pass (later_checks b)).0 s.1 in
        let t : total (program_of b) ≡ n = cc in
        let o = (head_pass (tail_pass (tail_pass p))).right 0 (omega arith) in
        record {
          accepted = s.0;
          acyclic = (head_pass p).right 0 (omega arith);
          whileless = (head_pass (tail_pass p)).right 0 (omega arith);
          most = along (λ (x : ℕ). x ≤ 65535) t (ltb-false 65535 (total (program_of b)) o);
          total_of = sym t;
        }

-- ---- "No schedule makes more moves, forked threads included."

main_simple : Simple start
unfolding start
main_simple zero t h =
    let e : record { self = 0; expression = Expression.call 0 Arguments.end; keys = singleton 0; learnt = 0; place = awake } ≡ t = cc in
    along (λ (z : Thread). Loopless z.expression) e tt
main_simple (suc p) t h = absurd (true≢false cc)

-- for every plan that is answered a number, and every list of picks
pub no_more_moves : (b : List ℕ) (n : ℕ) → bounded b ≡ value n → (ps : List ℕ) → length (instances (run_of b ps)) ≤ n
unfolding start measure run_of total
no_more_moves b n h ps =
    let k = totalled b n h in
    let B = body_cost (program_of b) (procedure_count (program_of b)) in
    let x = execution_bound B (program_of b) (fixed (program_of b) k.acyclic) (bodies_loopless b k.accepted k.whileless) main_simple
    (plan_executes b k.accepted ps) in
    let t = k.total_of in
    omega arith

-- the outcome's count too
pub no_more_counted : (b : List ℕ) (n : ℕ) → bounded b ≡ value n → (ps : List ℕ) → (outcome_of (program_of b) (run_of b ps)).moves ≤ n
unfolding outcome_of
no_more_counted b n h ps = no_more_moves b n h ps

-- "The total is main's body and 1.", where "a call adds the called body", whatever says what bodies cost
pub total_right : (b : List ℕ) (n : ℕ) → bounded b ≡ value n → (B : ℕ → ℕ) → Costs (program_of b) B → n ≡ suc (B 0)
total_right b n h B C = let k = totalled b n h in k.total_of ∙ total_is (program_of b) B C k.acyclic

-- and something does
pub costs_there : (b : List ℕ) (n : ℕ) → bounded b ≡ value n → (B : ℕ → ℕ) × Costs (program_of b) B
costs_there b n h = (body_cost (program_of b) (procedure_count (program_of b)), fixed (program_of b) (totalled b n h).acyclic)
