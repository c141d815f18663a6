-- The bodies of a plan that is loaded: they are the trees of its roots in the array, and call procedures that are there. Assumes nothing.
use Prim.Native.Nat.{ℕ, suc, ◌+◌, ◌*◌, ◌≤◌, ◌<◌}
use native.Mathlib.Omega.{arith}
use mathlib.Core.Path.{◌≡◌, refl, sym, ap, ◌∙◌, subst}
use mathlib.Core.Bool.{Bool, true, false, ◌||◌, true≢false}
use mathlib.Core.List.{List}
use mathlib.Core.Option.{Option, some, none}
use lib.Dec.{eqb, ltb}
use lib.ListN.{length, get_elem?}
use borrow.Author.Tests.{eqb-true}
use Rattle.plan_packed.specs.Syntax.{Expression, Condition, Arguments, Procedure, Program}
use Rattle.plan_packed.specs.Format.{procedures, terms, root}
use Rattle.plan_packed.specs.Trees.{tree_at, procedure_at, program_of}
use Rattle.plan_packed.specs.Check.{refusal}
use Rattle.plan_packed.specs.Slots.{bound}
use Rattle.plan_packed.specs.Inner.Steps.{Right, Ordered, tree_in}
use Rattle.plan_packed.proofs.Accepted.{accepted}
use Rattle.plan_packed.proofs.Decoded.{procedures_are, procedures_inside, well_formed}
use Rattle.plan_packed.proofs.NodeOrder.{ordered, tree_is}
use Rattle.plan_packed.proofs.Passing.{header_of_lem, all_right}
use Rattle.plan_packed.proofs.Shown.{make_sized}
use Rattle.plan_packed.proofs.WellFormed.{WellFormed, WellFormedᶜ, WellFormedᵃ}
use Rattle.rules.proofs.StateLaws.{inside, there}
use Rattle.costs.specs.Cost.{cost, cost_of_body, body_cost}
use Rattle.costs.specs.Calls.{calls, callsᶜ, callsᵃ, calls_by, called}
use Rattle.costs.proofs.Chains.{procedure_count}
use Rattle.bound.specs.Inner.Settling.{Loads}

-- ---- a call names a procedure that is there

module _ (g : Program) (n q : ℕ) where
  abbrev There : Type 0
  There = (d : Procedure) × (get_elem? g.procedures q ≡ some d)

  one_of : (x y : Bool) → (x ≡ true → There) → (y ≡ true → There) → (x || y) ≡ true → There
  one_of true y f h e = f refl
  one_of false y f h e = h e

  mutual
    unfolding calls

    callee_there : (e : Expression) (ρ : ℕ → Bool) → WellFormed g n ρ e → calls q e ≡ true → There
    callee_there (Expression.literal o) ρ w h = absurd (true≢false (sym h))
    callee_there (Expression.variable x) ρ w h = absurd (true≢false (sym h))
    callee_there (Expression.new fs) ρ w h = absurd (true≢false (sym h))
    callee_there (Expression.read e f) ρ w h = callee_there e ρ w.2 h
    callee_there (Expression.write e f e') ρ w h = one_of (calls q e) (calls q e') (λ k. callee_there e ρ w.2 k) (λ k. callee_there e' ρ w.3 k) h
    callee_there (Expression.let_in x e e') ρ w h =
        one_of (calls q e) (calls q e') (λ k. callee_there e ρ w.0 k) (λ k. callee_there e' (bound x ρ) w.1 k) h
    callee_there (Expression.if c e e') ρ w h =
        one_of (callsᶜ q c) (calls q e || calls q e') (λ k. callee_thereᶜ c ρ w.0 k)
        (λ k. one_of (calls q e) (calls q e') (λ j. callee_there e ρ w.1 j) (λ j. callee_there e' ρ w.2 j) k) h
    callee_there (Expression.while c e) ρ w h = one_of (callsᶜ q c) (calls q e) (λ k. callee_thereᶜ c ρ w.0 k) (λ k. callee_there e ρ w.1 k) h
    callee_there (Expression.call m es) ρ w h =
        one_of (callsᵃ q es) (eqb m q) (λ k. callee_thereᵃ es ρ w.1 k)
        (λ k. (w.0.0, ap (λ (x : ℕ). get_elem? g.procedures x) (sym (eqb-true m q k)) ∙ w.0.1)) h
    callee_there (Expression.fork e) ρ w h = callee_there e ρ w h
    callee_there (Expression.join e) ρ w h = callee_there e ρ w h
    callee_there (Expression.synch e e') ρ w h = one_of (calls q e) (calls q e') (λ k. callee_there e ρ w.0 k) (λ k. callee_there e' ρ w.1 k) h
    callee_there (Expression.hold o e) ρ w h = absurd w
    callee_there (Expression.signal k e) ρ w h = callee_there e ρ w h
    callee_there (Expression.waiting o) ρ w h = absurd w

    callee_thereᶜ : (c : Condition) (ρ : ℕ → Bool) → WellFormedᶜ g n ρ c → callsᶜ q c ≡ true → There
    callee_thereᶜ Condition.truth ρ w h = absurd (true≢false (sym h))
    callee_thereᶜ (Condition.not c) ρ w h = callee_thereᶜ c ρ w h
    callee_thereᶜ (Condition.and c c') ρ w h = one_of (callsᶜ q c) (callsᶜ q c') (λ k. callee_thereᶜ c ρ w.0 k) (λ k. callee_thereᶜ c' ρ w.1 k) h
    callee_thereᶜ (Condition.equal e e') ρ w h = one_of (calls q e) (calls q e') (λ k. callee_there e ρ w.0 k) (λ k. callee_there e' ρ w.1 k) h

    callee_thereᵃ : (es : Arguments) (ρ : ℕ → Bool) → WellFormedᵃ g n ρ es → callsᵃ q es ≡ true → There
    callee_thereᵃ Arguments.end ρ w h = absurd (true≢false (sym h))
    callee_thereᵃ (Arguments.argument e es) ρ w h = one_of (calls q e) (callsᵃ q es) (λ k. callee_there e ρ w.0 k) (λ k. callee_thereᵃ es ρ w.1 k) h

module _ (b : List ℕ) (ok : refusal b ≡ none) where
  -- the program's procedures are the plan's
  pub counted_in : (p : ℕ) → p < procedures b → p < procedure_count (program_of b)
  counted_in p h = inside (program_of b).procedures p (procedure_at b p) (procedures_are b p h)

  pub counted_out : (p : ℕ) → p < procedure_count (program_of b) → p < procedures b
  counted_out p h = let t = there (program_of b).procedures p h in (procedures_inside b p t.0 t.1).0

  pub callee_inside : (p q : ℕ) → called (program_of b) p q ≡ true → q < procedures b
  unfolding called
  callee_inside p q h = go (get_elem? (program_of b).procedures p) refl h
    where
      go : (d : Option Procedure) → get_elem? (program_of b).procedures p ≡ d → calls_by q d ≡ true → q < procedures b
      go none e k = absurd (true≢false (sym k))
      go (some d) e k =
          let t = callee_there (program_of b) 1 q d.body (λ x. ltb x d.parameters) ((well_formed b ok).bodies p d e) k in
          (procedures_inside b q t.0 t.1).0

  pub right_of : Right b (procedures b) (terms b)
  right_of =
      let a = (all_right b ok).six in
      let k = header_of_lem b a.right₂ in
      record {
        headed = record {
          sized = make_sized b (procedures b) (terms b) a.right₁ refl refl;
          some_term = k.3;
          few = k.4;
          procedures_right = a.right₃;
        };
        terms_right = a.right₄;
      }

  pub long_enough : 8 ≤ length b
  long_enough = let z = right_of.headed.sized.long in omega arith

-- ---- the bodies in the array

module _ {b words : List ℕ} {n : ℕ} (l : Loads b n words) where
  pub few_procedures : n ≤ 32
  few_procedures = omega (arith, l.procedures_are, (accepted b l.passes).few_procedures)

  module _ (p : ℕ) (h : p < n) where
    inside_plan : p < procedures b
    inside_plan = subst (λ (m : ℕ). p < m) l.procedures_are h

    -- where its root stands
    pub root_there : (p < 64) × (8 + 2 * p + 2 ≤ length b)
    root_there =
        let z = (right_of b l.passes).headed.sized.long in
        let a = (accepted b l.passes).few_procedures in
        let k = inside_plan in
        (omega arith, omega arith)

    pub root_call : {t : ℕ} → t ≡ root b p → Ordered words × (t < 1024)
    root_call e =
        let a = accepted b l.passes in (
          ordered b (procedures b) (terms b) (right_of b l.passes) words l.loaded,
          omega (arith, e, (a.each_procedure p inside_plan).root_below, a.few_terms),
        )

    tree_there : {t : ℕ} → t ≡ root b p → tree_in words t ≡ tree_at b (root b p)
    tree_there e = tree_is b (procedures b) (terms b) (right_of b l.passes) words l.loaded _ ∙ ap (tree_at b) e

    pub called_in : {t : ℕ} → t ≡ root b p → (q : ℕ) → calls q (tree_in words t) ≡ called (program_of b) p q
    unfolding called procedure_at
    called_in e q = ap (calls q) (tree_there e) ∙ sym (ap (calls_by q) (procedures_are b p inside_plan))

    pub cost_in : {t : ℕ} → t ≡ root b p → (k : ℕ) → cost (body_cost (program_of b) k) (tree_in words t) ≡ body_cost (program_of b) (suc k) p
    unfolding body_cost procedure_at
    cost_in e k = ap (cost (body_cost (program_of b) k)) (tree_there e) ∙ sym (ap (cost_of_body (body_cost (program_of b) k)) (procedures_are b p inside_plan))
