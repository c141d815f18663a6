-- Where calls form no cycle, the bodies' costs are those that `Costs` asks for, and no others. Assumes nothing.
use Prim.Native.Nat.{ℕ, zero, suc, ◌+◌, ◌<◌, ◌≤◌, max}
use native.Mathlib.Decide.{dec_lt}
use native.Mathlib.Omega.{arith}
use mathlib.Core.Path.{◌≡◌, refl, sym, ap, ap₂, ◌∙◌}
use mathlib.Core.Bool.{Bool, true, false, ◌||◌, true≢false}
use mathlib.Core.Option.{Option, some, none}
use lib.Dec.{eqb}
use lib.ListN.{length, get_elem?}
use borrow.Author.Tests.{eq-eqb}
use Rattle.plan_packed.specs.Syntax.{Expression, Condition, Arguments, Procedure, Program}
use Rattle.rules.proofs.StateLaws.{outside}
use Rattle.costs.specs.Cost.{one_more, cost, costᶜ, costᵃ, cost_of_body, Costs, body_cost, total}
use Rattle.costs.specs.Calls.{calls, callsᶜ, callsᵃ, calls_by, called, cyclic}
use Rattle.costs.specs.Inner.Leading.{leads_on}
use Rattle.costs.proofs.Below.{by_true}
use Rattle.costs.proofs.Chains.{procedure_count, one_more_lem, ends_soon}

-- ---- the cost of a tree depends on the bodies that it calls

second_or : (x y : Bool) → y ≡ true → (x || y) ≡ true
second_or true y h = refl
second_or false y h = h

module _ (B B' : ℕ → ℕ) where
  -- the bodies that a test names cost the same
  abbrev Same : (ℕ → Bool) → Type 0
  Same f = (q : ℕ) → f q ≡ true → B q ≡ B' q

  parts : (x y : ℕ → Bool) → Same (λ q. x q || y q) → Same x × Same y
  parts x y h = (λ q k. h q (ap (λ (b : Bool). b || y q) k), λ q k. h q (second_or (x q) (y q) k))

  mutual
    unfolding cost calls

    pub same_cost : (e : Expression) → Same (λ q. calls q e) → cost B e ≡ cost B' e
    same_cost (Expression.literal o) h = refl
    same_cost (Expression.variable x) h = refl
    same_cost (Expression.new fs) h = refl
    same_cost (Expression.read e f) h = ap suc (same_cost e h)
    same_cost (Expression.write e f e') h = let d = parts (λ q. calls q e) (λ q. calls q e') h in ap suc (ap₂ ◌+◌ (same_cost e d.0) (same_cost e' d.1))
    same_cost (Expression.let_in x e e') h = let d = parts (λ q. calls q e) (λ q. calls q e') h in ap suc (ap₂ ◌+◌ (same_cost e d.0) (same_cost e' d.1))
    same_cost (Expression.if c e e') h =
        let d = parts (λ q. callsᶜ q c) (λ q. calls q e || calls q e') h in
        let b = parts (λ q. calls q e) (λ q. calls q e') d.1 in
        ap suc (ap₂ ◌+◌ (same_costᶜ c d.0) (ap₂ max (same_cost e b.0) (same_cost e' b.1)))
    same_cost (Expression.while c e) h = let d = parts (λ q. callsᶜ q c) (λ q. calls q e) h in ap suc (ap₂ ◌+◌ (same_costᶜ c d.0) (same_cost e d.1))
    same_cost (Expression.call m es) h = let d = parts (λ q. callsᵃ q es) (λ q. eqb m q) h in ap suc (ap₂ ◌+◌ (same_costᵃ es d.0) (d.1 m (eq-eqb m m refl)))
    same_cost (Expression.fork e) h = ap suc (same_cost e h)
    same_cost (Expression.join e) h = ap suc (same_cost e h)
    same_cost (Expression.synch e e') h =
        let d = parts (λ q. calls q e) (λ q. calls q e') h in
        ap (λ (n : ℕ). suc (suc n)) (ap₂ ◌+◌ (same_cost e d.0) (same_cost e' d.1))
    same_cost (Expression.hold o e) h = ap suc (same_cost e h)
    same_cost (Expression.signal k e) h = ap (λ (n : ℕ). suc (n + one_more k)) (same_cost e h)
    same_cost (Expression.waiting o) h = refl

    same_costᶜ : (c : Condition) → Same (λ q. callsᶜ q c) → costᶜ B c ≡ costᶜ B' c
    same_costᶜ Condition.truth h = refl
    same_costᶜ (Condition.not c) h = ap suc (same_costᶜ c h)
    same_costᶜ (Condition.and c c') h = let d = parts (λ q. callsᶜ q c) (λ q. callsᶜ q c') h in ap suc (ap₂ ◌+◌ (same_costᶜ c d.0) (same_costᶜ c' d.1))
    same_costᶜ (Condition.equal e e') h = let d = parts (λ q. calls q e) (λ q. calls q e') h in ap suc (ap₂ ◌+◌ (same_cost e d.0) (same_cost e' d.1))

    same_costᵃ : (es : Arguments) → Same (λ q. callsᵃ q es) → costᵃ B es ≡ costᵃ B' es
    same_costᵃ Arguments.end h = refl
    same_costᵃ (Arguments.argument e es) h = let d = parts (λ q. calls q e) (λ q. callsᵃ q es) h in ap₂ ◌+◌ (same_cost e d.0) (same_costᵃ es d.1)

  pub same_body : (d : Option Procedure) → Same (λ q. calls_by q d) → cost_of_body B d ≡ cost_of_body B' d
  same_body none h = refl
  same_body (some d) h = same_cost d.body h

module _ (g : Program) where
  -- from where no call leads on, one call less does
  shorter : (k p q : ℕ) → leads_on g (suc k) p ≡ false → called g p q ≡ true → q < procedure_count g → leads_on g k q ≡ false
  shorter k p q h c b = by_true (leads_on g k q) (λ e. true≢false (sym (one_more_lem g k p q b c e) ∙ h))

  -- a procedure that is not there costs nothing
  absent : (m : ℕ) → procedure_count g ≤ m → get_elem? g.procedures m ≡ none
  absent m h = outside g.procedures m h

  absent_cost : (k m : ℕ) → procedure_count g ≤ m → body_cost g k m ≡ 0
  unfolding body_cost
  absent_cost zero m h = refl
  absent_cost (suc k) m h = ap (cost_of_body (body_cost g k)) (absent m h)

  -- ---- the costs are there

  -- where k calls do not lead on, it does not matter whether one more is looked into
  pub stable : (k m : ℕ) → leads_on g k m ≡ false → body_cost g k m ≡ body_cost g (suc k) m
  unfolding body_cost leads_on called
  stable zero m h = absurd (true≢false h)
  stable (suc k) m h = same_body (body_cost g k) (body_cost g (suc k)) (get_elem? g.procedures m)
      (λ q c. at q c (dec_lt q (procedure_count g)) (λ f. stable k q f))
    where
      at : (q : ℕ) → called g m q ≡ true → Dec (q < procedure_count g) → (leads_on g k q ≡ false → body_cost g k q ≡ body_cost g (suc k) q)
          → body_cost g k q ≡ body_cost g (suc k) q
      at q c (yes b) i = i (shorter k m q h c b)
      at q c (no b) i = absent_cost k q (omega (arith, b)) ∙ sym (absent_cost (suc k) q (omega (arith, b)))

  -- what bodies cost, "a call adds the called body"
  pub fixed : cyclic g ≡ false → Costs g (body_cost g (procedure_count g))
  unfolding body_cost
  fixed h = record { bodies = λ m. at m (dec_lt m (procedure_count g)) }
    where
      at : (m : ℕ) → Dec (m < procedure_count g) → cost_of_body (body_cost g (procedure_count g)) (get_elem? g.procedures m) ≡ body_cost g (procedure_count g) m
      at m (yes b) = sym (stable (procedure_count g) m (ends_soon g h m b))
      at m (no b) = ap (cost_of_body (body_cost g (procedure_count g))) (absent m (omega (arith, b))) ∙ sym (absent_cost (procedure_count g) m (omega (arith, b)))

  -- ---- and no others

  module _ (B : ℕ → ℕ) (C : Costs g B) where
    absent_free : (m : ℕ) → procedure_count g ≤ m → B m ≡ 0
    absent_free m h = sym (C.bodies m) ∙ ap (cost_of_body B) (absent m h)

    pub once : (k m : ℕ) → leads_on g k m ≡ false → B m ≡ body_cost g k m
    unfolding body_cost leads_on called
    once zero m h = absurd (true≢false h)
    once (suc k) m h = sym (C.bodies m)
        ∙ same_body B (body_cost g k) (get_elem? g.procedures m) (λ q c. at q c (dec_lt q (procedure_count g)) (λ f. once k q f))
      where
        at : (q : ℕ) → called g m q ≡ true → Dec (q < procedure_count g) → (leads_on g k q ≡ false → B q ≡ body_cost g k q) → B q ≡ body_cost g k q
        at q c (yes b) i = i (shorter k m q h c b)
        at q c (no b) i = absent_free q (omega (arith, b)) ∙ sym (absent_cost k q (omega (arith, b)))

    -- "The total is main's body and 1.", whatever says what bodies cost
    pub total_is : cyclic g ≡ false → total g ≡ suc (B 0)
    unfolding total
    total_is h = ap suc (at (dec_lt 0 (procedure_count g)))
      where
        at : Dec (0 < procedure_count g) → body_cost g (procedure_count g) 0 ≡ B 0
        at (yes b) = sym (once (procedure_count g) 0 (ends_soon g h 0 b))
        at (no b) = absent_cost (procedure_count g) 0 (omega (arith, b)) ∙ sym (absent_free 0 (omega (arith, b)))
