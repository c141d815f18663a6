-- Chains of calls: calls form a cycle exactly where a procedure can be called on and on, and then one of no more calls than there are procedures. Assumes
-- nothing.
use Prim.Native.Nat.{ℕ, zero, suc, ◌+◌, ◌≤◌, ◌<◌}
use native.Mathlib.Decide.{ℕ_discrete}
use native.Mathlib.Omega.{arith}
use mathlib.Core.Path.{◌≡◌, refl, sym, ap, ◌∙◌, subst}
use mathlib.Core.Bool.{Bool, true, false, ◌&&◌, true≢false}
use mathlib.Core.List.{List, [], ◌∷◌}
use mathlib.Core.Logic.{◌⊎◌, inl, inr}
use mathlib.Core.Option.{Option, some, none}
use lib.ListN.{length, get_elem?}
use Rattle.plan_packed.specs.Syntax.{Procedure, Program}
use Rattle.plan_packed.specs.Refusals.{any_below}
use Rattle.rules.proofs.StateLaws.{inside}
use Rattle.costs.specs.Calls.{calls_by, called, chain, cyclic}
use Rattle.costs.specs.Inner.Leading.{leads_on}
use Rattle.costs.proofs.Below.{both, by_true, any_found, any_true, minus, minus_other, count, count_most, count_minus}

module _ (g : Program) where
  -- how many procedures there are
  abbrev pub procedure_count : ℕ
  procedure_count = length g.procedures

  -- who calls is there
  pub caller_there : (p q : ℕ) → called g p q ≡ true → p < procedure_count
  unfolding called
  caller_there p q h = go (get_elem? g.procedures p) refl h
    where
      go : (d : Option Procedure) → get_elem? g.procedures p ≡ d → calls_by q d ≡ true → p < procedure_count
      go none e k = absurd (true≢false (sym k))
      go (some d) e k = inside g.procedures p d e

  -- ---- calls that lead on

  -- the first of one more
  pub goes : (k p : ℕ) → leads_on g (suc k) p ≡ true → (q : ℕ) × (q < procedure_count) × (called g p q ≡ true) × (leads_on g k q ≡ true)
  unfolding leads_on
  goes k p h =
      let a = any_found procedure_count (λ q. called g p q && leads_on g k q) h in
      let b = both (called g p a.0) (leads_on g k a.0) a.2 in
      (a.0, a.1, b.0, b.1)

  pub one_more_lem : (k p q : ℕ) → q < procedure_count → called g p q ≡ true → leads_on g k q ≡ true → leads_on g (suc k) p ≡ true
  unfolding leads_on
  one_more_lem k p q h c e = any_true procedure_count (λ r. called g p r && leads_on g k r) q h (rw (c, e))

  pub one_less : (k p : ℕ) → leads_on g (suc k) p ≡ true → leads_on g k p ≡ true
  unfolding leads_on
  one_less zero p h = refl
  one_less (suc k) p h = let a = goes (suc k) p h in one_more_lem k p a.0 a.1 a.2 (one_less k a.0 a.3)

  fewer : (j k p : ℕ) → leads_on g (j + k) p ≡ true → leads_on g k p ≡ true
  fewer zero k p h = subst (λ (n : ℕ). leads_on g n p ≡ true) (let a = k in omega arith) h
  fewer (suc j) k p h = fewer j k p (one_less (j + k) p (subst (λ (n : ℕ). leads_on g n p ≡ true) (omega arith) h))

  -- a chain, and what leads on from its end
  past_chain : (k j p q : ℕ) → q < procedure_count → chain g k p q ≡ true → leads_on g j q ≡ true → leads_on g (suc (k + j)) p ≡ true
  unfolding chain
  past_chain zero j p q b h e = subst (λ (n : ℕ). leads_on g n p ≡ true) (omega arith) (one_more_lem j p q b h e)
  past_chain (suc k) j p q b h e =
      let a = any_found procedure_count (λ r. called g p r && chain g k r q) h in
      let c = both (called g p a.0) (chain g k a.0 q) a.2 in
      subst (λ (n : ℕ). leads_on g n p ≡ true) (omega arith) (one_more_lem (suc (k + j)) p a.0 a.1 c.0 (past_chain k j a.0 q b c.1 e))

  chain_there : (k p q : ℕ) → chain g k p q ≡ true → p < procedure_count
  unfolding chain
  chain_there zero p q h = caller_there p q h
  chain_there (suc k) p q h =
      let a = any_found procedure_count (λ r. called g p r && chain g k r q) h in
      caller_there p a.0 (both (called g p a.0) (chain g k a.0 q) a.2).0

  -- a cycle leads on and on
  pub round_leads : (k p : ℕ) → chain g k p p ≡ true → (j : ℕ) → leads_on g j p ≡ true
  unfolding leads_on
  round_leads k p h zero = refl
  round_leads k p h (suc j) =
      let e : suc (k + j) ≡ k + suc j = omega arith in
      fewer k (suc j) p (subst (λ (n : ℕ). leads_on g n p ≡ true) e (past_chain k j p p (chain_there k p p h) h (round_leads k p h j)))

  -- ---- the procedures on the way

  -- each of these is called by the one before it
  abbrev Way : ℕ → List ℕ → Type 0
  Way p [] = Unit {0}
  Way p (q ∷ qs) = (q < procedure_count) × (called g p q ≡ true) × Way q qs

  way : (k p : ℕ) → leads_on g k p ≡ true → (qs : List ℕ) × (length qs ≡ k) × Way p qs
  way zero p h = ([], refl, tt)
  way (suc k) p h = let a = goes k p h in let w = way k a.0 a.3 in (a.0 ∷ w.0, ap suc w.1, (a.1, a.2, w.2))

  -- x is one of them, or none is
  abbrev Among : ℕ → List ℕ → Type 0
  Among x [] = ⊥
  Among x (q ∷ qs) = (q ≡ x) ⊎ Among x qs

  abbrev Each : (ℕ → Type 0) → List ℕ → Type 0
  Each P [] = Unit {0}
  Each P (q ∷ qs) = P q × Each P qs

  seek : (x : ℕ) (qs : List ℕ) → Among x qs ⊎ Each (λ q. q ≡ x → ⊥) qs
  seek x [] = inr tt
  seek x (q ∷ qs) = go (ℕ_discrete q x) (seek x qs)
    where
      go : Dec (q ≡ x) → Among x qs ⊎ Each (λ q. q ≡ x → ⊥) qs → ((q ≡ x) ⊎ Among x qs) ⊎ ((q ≡ x → ⊥) × Each (λ q. q ≡ x → ⊥) qs)
      go (yes e) r = inl (inl e)
      go (no e) (inl a) = inl (inr a)
      go (no e) (inr a) = inr (e, a)

  -- a chain leads to each of them
  chain_to : (p x : ℕ) (qs : List ℕ) → Way p qs → Among x qs → (k : ℕ) × (k < length qs) × (chain g k p x ≡ true)
  unfolding chain
  chain_to p x [] w a = absurd a
  chain_to p x (q ∷ qs) w (inl e) = (0, omega arith, subst (λ (y : ℕ). called g p y ≡ true) e w.1)
  chain_to p x (q ∷ qs) w (inr a) =
      let c = chain_to q x qs w.2 a in
      (suc c.0, (let h = c.1 in omega arith), any_true procedure_count (λ r. called g p r && chain g c.0 r x) q w.0 (rw (w.1, c.2)))

  -- a cycle of at most so many calls
  abbrev Round : ℕ → Type 0
  Round n = (p : ℕ) × (k : ℕ) × (p < procedure_count) × (k < n) × (chain g k p p ≡ true)

  avoiding : (p : ℕ) (S : ℕ → Bool) (qs : List ℕ) → Each (λ q. S q ≡ true) qs → Each (λ q. q ≡ p → ⊥) qs → Each (λ q. minus p S q ≡ true) qs
  avoiding p S [] a b = tt
  avoiding p S (q ∷ qs) a b = (minus_other p S q b.0 ∙ a.0, avoiding p S qs a.1 b.1)

  -- procedures of S, each called by the one before it: one comes again, or S has more than were called
  crowded : (n p : ℕ) (qs : List ℕ) (S : ℕ → Bool) → length qs ≤ n → p < procedure_count → Way p qs → S p ≡ true → Each (λ q. S q ≡ true) qs
      → Round n ⊎ (length qs < count S procedure_count)
  crowded n p [] S b h w i e = inr (let z = count_minus p S procedure_count h i in omega arith)
  crowded n p (q ∷ qs) S b h w i e = go (λ a. crowded n q qs (minus p S) (omega arith) w.0 w.2 a.0 a.1) (seek p (q ∷ qs))
    where
      counted : Round n ⊎ (length qs < count (minus p S) procedure_count) → Round n ⊎ (suc (length qs) < count S procedure_count)
      counted (inl r) = inl r
      counted (inr l) = inr (let z = count_minus p S procedure_count h i in omega arith)

      go : (Each (λ q. minus p S q ≡ true) (q ∷ qs) → Round n ⊎ (length qs < count (minus p S) procedure_count))
          → Among p (q ∷ qs) ⊎ Each (λ q. q ≡ p → ⊥) (q ∷ qs)
          → Round n ⊎ (suc (length qs) < count S procedure_count)
      go next (inl a) = let c = chain_to p p (q ∷ qs) w a in inl (p, c.0, h, (let k = c.1 in omega arith), c.2)
      go next (inr a) = counted (next (avoiding p S (q ∷ qs) e a))

  all_true : (qs : List ℕ) → Each (λ q. true ≡ true) qs
  all_true [] = tt
  all_true (q ∷ qs) = (refl, all_true qs)

  -- as many calls as there are procedures lead on from one: there is a cycle
  found : (p : ℕ) → p < procedure_count → leads_on g procedure_count p ≡ true → Round procedure_count
  found p h e = let w =
      way procedure_count p e in go w.1 (crowded procedure_count p w.0 (λ x. true) (let l = w.1 in omega arith) h w.2 refl (all_true w.0))
    where
      go : {n : ℕ} → n ≡ procedure_count → Round procedure_count ⊎ (n < count (λ x. true) procedure_count) → Round procedure_count
      go l (inl r) = r
      go l (inr k) = absurd (omega (arith, count_most (λ x. true) procedure_count))

  round_cyclic : Round procedure_count → cyclic g ≡ true
  unfolding cyclic
  round_cyclic r =
      any_true procedure_count (λ p. any_below procedure_count (λ k. chain g k p p)) r.0 r.2
      (any_true procedure_count (λ k. chain g k r.0 r.0) r.1 r.3 r.4)

  -- ---- what refusal 21 says

  -- as many calls as there are procedures lead on from one: calls form a cycle
  pub long_cyclic : (p : ℕ) → p < procedure_count → leads_on g procedure_count p ≡ true → cyclic g ≡ true
  long_cyclic p h e = round_cyclic (found p h e)

  -- "calls [..] form a cycle": a chain of calls, however long, leads from a procedure to itself
  pub any_cycle : (k p : ℕ) → chain g k p p ≡ true → cyclic g ≡ true
  any_cycle k p h = long_cyclic p (chain_there k p p h) (round_leads k p h procedure_count)

  -- and there is one where the plan is refused
  pub some_cycle : cyclic g ≡ true → (k : ℕ) × (p : ℕ) × (chain g k p p ≡ true)
  unfolding cyclic
  some_cycle h =
      let a = any_found procedure_count (λ p. any_below procedure_count (λ k. chain g k p p)) h in
      let b = any_found procedure_count (λ k. chain g k a.0 a.0) a.2 in
      (b.0, a.0, b.2)

  -- where calls form no cycle, no more of them stand one in the other than there are procedures
  pub ends_soon : cyclic g ≡ false → (p : ℕ) → p < procedure_count → leads_on g procedure_count p ≡ false
  ends_soon h p b = by_true (leads_on g procedure_count p) (λ e. true≢false (sym (long_cyclic p b e) ∙ h))

  -- where calls do not lead on for ever from any procedure, they form no cycle
  pub ends_acyclic : (n : ℕ) → ((p : ℕ) → p < procedure_count → leads_on g n p ≡ false) → cyclic g ≡ false
  ends_acyclic n h = by_true (cyclic g) (λ e. let c =
      some_cycle e in true≢false (sym (round_leads c.0 c.1 c.2 n) ∙ h c.1 (chain_there c.0 c.1 c.1 c.2)))
