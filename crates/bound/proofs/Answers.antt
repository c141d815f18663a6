-- What the settled procedures say of a plan: whether calls form a cycle, and its total; and so the answer. Assumes nothing.
use Prim.Native.Nat.{ℕ, zero, suc, ◌+◌, ◌≤◌, ◌<◌, min}
use native.Mathlib.Omega.{arith}
use mathlib.Core.Path.{◌≡◌, refl, sym, ap, ◌∙◌}
use mathlib.Core.Bool.{Bool, true, false, ◌&&◌, not, true≢false}
use mathlib.Core.List.{List, [], ◌∷◌}
use mathlib.Core.Option.{Option, some, none}
use lib.Dec.{eqb}
use lib.ListN.{get_or}
use borrow.Author.Tests.{lt-ltb, le-ltb, not-true, not-false}
use Rattle.format.specs.Refusal.{Refusal, or_else, lowest, refuse, first_refusal}
use Rattle.format.specs.Inner.Lowest.{Lowest}
use Rattle.format.proofs.LowestLaws.{whole, whole_none}
use Rattle.run_keys.specs.Keys.{holds, subset}
use Rattle.plan_packed.specs.Format.{procedures, terms}
use Rattle.plan_packed.specs.Trees.{program_of}
use Rattle.plan_packed.specs.Check.{refusal}
use Rattle.plan_packed.specs.Refusals.{any_below}
use Rattle.plan_packed.specs.Inner.Steps.{tag_in}
use Rattle.plan_packed.proofs.Accepted.{accepted}
use Rattle.plan_refusals.specs.Answer as checked
use Rattle.plan_refusals.proofs.Stages.{Checked}
use Rattle.refusals.specs.declared.Refusal as code
use Rattle.refusals.specs.Numbers.{refusal_of}
use Rattle.std.specs.Prelude.{Err}
use Rattle.costs.specs.Cost.{body_cost, total}
use Rattle.costs.specs.Calls.{called, cyclic}
use Rattle.costs.specs.Inner.Leading.{leads_on}
use Rattle.costs.specs.Bound.{has_while, over_most, bound_refusal, bounded}
use Rattle.costs.proofs.Below.{both, any_found, any_true}
use Rattle.costs.proofs.Chains.{procedure_count, one_more_lem, long_cyclic, ends_acyclic}
use Rattle.costs.proofs.Fixed.{fixed, once}
use Rattle.costs.proofs.Plans.{later_checks, bound_stages, no_more_moves}
use Rattle.plan_tag_search.proofs.Tags.{tag_in_lem}
use Rattle.plan_cost_walk.specs.Inner.Walked.{capped}
use Rattle.answers.specs.Answer.{Answer, value, refused, answer_by}
use Rattle.bound.specs.NoMoreMoves.{NoMoreMoves}
use Rattle.bound.specs.Inner.Settling.{Loads, Called, Settled, Stuck}
use Rattle.bound.proofs.Sets.{make_subset}
use Rattle.bound.proofs.Bodies.{few_procedures, counted_in, counted_out, callee_inside}

-- an answer that is the papers' holds of runs
pub no_more : (b : List ℕ) (r : Answer) → r ≡ bounded b → NoMoreMoves b r
unfolding NoMoreMoves
no_more b (refused r) e = tt
no_more b (value n) e = λ picks. no_more_moves b n (sym e) picks

-- a refusal of the check is the answer
pub by_check : (b : List ℕ) (r : Checked) (c : code.Refusal) → checked.answered r ≡ refusal b → r ≡ Err c → refused (refusal_of c) ≡ bounded b
unfolding bounded answer_by or_else checked.answered
by_check b r c e q =
    let s : refusal b ≡ some (refusal_of c) = sym e ∙ ap checked.answered q in
    ap (λ (o : Option Refusal). answer_by o (total (program_of b)))
    (sym (bound_stages b ∙ ap (λ (x : Option Refusal). or_else x (first_refusal (later_checks b))) s))

-- what is not false
unless : (x : Bool) → (x ≡ false → ⊥) → x ≡ true
unless true h = refl
unless false h = absurd (h refl)

module _ {b words : List ℕ} {n : ℕ} (l : Loads b n words) where
  -- ---- refusal 21

  module _ {sets : List ℕ} (C : Called b n sets) (done : ℕ) (S : Stuck b sets done) where
    -- a procedure that is left calls one that is
    left_calls : (p : ℕ) → p < n → holds done p ≡ false → (q : ℕ) × (q < n) × (called (program_of b) p q ≡ true) × (holds done q ≡ false)
    left_calls p h f = go (any_below 32 (λ q. holds (get_or sets p 0) q && not (holds done q))) refl
      where
        go : (x : Bool) → any_below 32 (λ q. holds (get_or sets p 0) q && not (holds done q)) ≡ x
            → (q : ℕ) × (q < n) × (called (program_of b) p q ≡ true) × (holds done q ≡ false)
        go true e =
            let a = any_found 32 (λ q. holds (get_or sets p 0) q && not (holds done q)) e in
            let c = both (holds (get_or sets p 0) a.0) (not (holds done a.0)) a.2 in
            let k = sym (C.each p h a.0 a.1) ∙ c.0 in
            (a.0, (let i = callee_inside b l.passes p a.0 k in let m = l.procedures_are in omega arith), k, not-true (holds done a.0) c.1)
        go false e =
            absurd (true≢false (sym (make_subset 32 (get_or sets p 0) done (C.small p h)
            (λ q i k. unless (holds done q) (λ z. true≢false (sym (any_true 32 (λ q. holds (get_or sets p 0) q && not (holds done q)) q i (rw (k, z))) ∙ e))))
            ∙ S p (let m = l.procedures_are in omega arith) f))

    left_leads : (k p : ℕ) → p < n → holds done p ≡ false → leads_on (program_of b) k p ≡ true
    unfolding leads_on
    left_leads zero p h f = refl
    left_leads (suc k) p h f =
        let a = left_calls p h f in
        one_more_lem (program_of b) k p a.0 (counted_in b l.passes a.0 (let i = a.1 in let m = l.procedures_are in omega arith)) a.2
        (left_leads k a.0 a.1 a.3)

    -- one is left
    pub left_cyclic : (p : ℕ) → p < n → holds done p ≡ false → cyclic (program_of b) ≡ true
    left_cyclic p h f = long_cyclic (program_of b) p (counted_in b l.passes p (let m = l.procedures_are in omega arith))
        (left_leads (procedure_count (program_of b)) p h f)

  -- none is
  module _ {done : ℕ} {costs : List ℕ} (S : Settled b done costs) (all : (p : ℕ) → p < n → holds done p ≡ true) where
    all_end : (p : ℕ) → p < procedure_count (program_of b) → leads_on (program_of b) S.depth p ≡ false
    all_end p h = let i = counted_out b l.passes p h in S.by_depth.ends p i (all p (let m = l.procedures_are in omega arith))

    pub all_acyclic : cyclic (program_of b) ≡ false
    all_acyclic = ends_acyclic (program_of b) S.depth all_end

    main_there : 0 < procedures b
    main_there = let h = (accepted b l.passes).some_procedure in omega arith

    -- main's cost
    pub main_cost : get_or costs 0 0 ≡ capped (body_cost (program_of b) (procedure_count (program_of b)) 0)
    main_cost =
        S.by_depth.costs_are 0 main_there (all 0 (let m = l.procedures_are in let h = main_there in omega arith))
        ∙ ap capped (sym (once (program_of b) (body_cost (program_of b) (procedure_count (program_of b))) (fixed (program_of b) all_acyclic) S.depth 0
        (all_end 0 (counted_in b l.passes 0 main_there))))

    -- and its total, which 65,536 moves stand for where it is more
    pub total_in : (v : ℕ) → v ≡ get_or costs 0 0 + 1 → v ≡ min (total (program_of b)) 65537
    unfolding total
    total_in v e = let c = main_cost in let x = body_cost (program_of b) (procedure_count (program_of b)) 0 in omega arith

  -- ---- refusal 22

  pub while_in_lem : (m : ℕ) → m ≡ terms b → any_below m (λ t. eqb (tag_in words t) 7) ≡ has_while b
  unfolding has_while
  while_in_lem m e = tag_in_lem b words l.loaded m 7 e

  -- ---- the answer

  later : bound_refusal b ≡ first_refusal (later_checks b)
  unfolding or_else
  later = bound_stages b ∙ rw l.passes

  said : (r : Option Refusal) → first_refusal (later_checks b) ≡ r → answer_by r (total (program_of b)) ≡ bounded b
  unfolding bounded
  said r e = ap (λ (o : Option Refusal). answer_by o (total (program_of b))) (sym (later ∙ e))

  pub answer_21 : cyclic (program_of b) ≡ true → refused (record { number = 21; place = 0 }) ≡ bounded b
  unfolding answer_by first_refusal refuse
  answer_21 e = let m : lowest (λ place. cyclic (program_of b)) 1 ≡ some 0 =
      whole (cyclic (program_of b)) e in said (some (record { number = 21; place = 0 })) (rw m)

  module _ (a : cyclic (program_of b) ≡ false) where
    m21 : lowest (λ place. cyclic (program_of b)) 1 ≡ none
    m21 = whole_none (cyclic (program_of b)) a

    pub answer_22 : has_while b ≡ true → refused (record { number = 22; place = 0 }) ≡ bounded b
    unfolding answer_by first_refusal refuse
    answer_22 e = let m : lowest (λ place. has_while b) 1 ≡ some 0 = whole (has_while b) e in said (some (record { number = 22; place = 0 })) (rw (m21, m))

    module _ (w : has_while b ≡ false) (v : ℕ) (t : v ≡ min (total (program_of b)) 65537) where
      m22 : lowest (λ place. has_while b) 1 ≡ none
      m22 = whole_none (has_while b) w

      pub answer_23 : 65535 < v → refused (record { number = 23; place = 0 }) ≡ bounded b
      unfolding answer_by first_refusal refuse over_most
      answer_23 h =
          let m : lowest (λ place. over_most (total (program_of b))) 1 ≡ some 0 =
          whole (over_most (total (program_of b))) (lt-ltb 65535 (total (program_of b)) (omega arith)) in
          said (some (record { number = 23; place = 0 })) (rw (m21, m22, m))

      pub answer_moves : v ≤ 65535 → value v ≡ bounded b
      unfolding answer_by first_refusal refuse over_most
      answer_moves h =
          let m : lowest (λ place. over_most (total (program_of b))) 1 ≡ none =
          whole_none (over_most (total (program_of b))) (le-ltb 65535 (total (program_of b)) (omega arith)) in
          let e : v ≡ total (program_of b) = omega arith in
          ap value e ∙ said none (rw (m21, m22, m))
