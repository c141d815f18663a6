-- Procedures that are held in arrays: one more, and that they stay. Assumes nothing.
use Prim.Native.Nat.{ℕ, zero, suc, ◌+◌, ◌-◌, ◌≤◌, ◌<◌}
use native.Mathlib.Omega.{arith}
use mathlib.Core.Path.{◌≡◌, refl, ap, ap₂, ◌∙◌}
use mathlib.Core.List.{List, [], ◌∷◌, ◌++◌}
use lib.ListN.{get_or}
use Rattle.plan_packed.specs.Syntax.{Expression, Procedure}
use Rattle.plan_packed.specs.Trees.{node_of, expression_of, condition_of, arguments_of, expression_at, condition_at, arguments_at}
use Rattle.plan_packed.specs.Inner.Steps.{Ordered, term_in, node_in, tree_in}
use Rattle.plan_packed.proofs.TreeLaws.{expression_cong, condition_cong, arguments_cong}
use Rattle.plan_written.specs.Terms.{terms_of, size}
use Rattle.plan_written.specs.Written.{size_of_all}
use Rattle.plan_writer.specs.Inner.Held.{held_procedure, held_from}

-- ---- trees above a term stay where the terms from it on do

module _ (words words' : List ℕ) (o : Ordered words) (left : ℕ) (stay : (i : ℕ) → left ≤ i → get_or words' i 0 ≡ get_or words i 0) where
  node_stays : (i : ℕ) → left ≤ i → node_in words' i ≡ node_in words i
  unfolding node_in
  node_stays i h = ap (λ (w : ℕ). node_of (term_in w)) (stay i h)

  all_stay : (n t : ℕ) → left ≤ t
      → (expression_at (node_in words') n t ≡ expression_at (node_in words) n t)
      × (condition_at (node_in words') n t ≡ condition_at (node_in words) n t)
      × (arguments_at (node_in words') n t ≡ arguments_at (node_in words) n t)
  unfolding expression_at
  all_stay zero t h = (refl, refl, refl)
  all_stay (suc n) t h =
      let e : (i : ℕ) → t < i → expression_at (node_in words') n i ≡ expression_at (node_in words) n i = λ i k. (all_stay n i (omega arith)).0 in
      let c : (i : ℕ) → t < i → condition_at (node_in words') n i ≡ condition_at (node_in words) n i = λ i k. (all_stay n i (omega arith)).1 in
      let l : (i : ℕ) → t < i → arguments_at (node_in words') n i ≡ arguments_at (node_in words) n i = λ i k. (all_stay n i (omega arith)).2 in (
        ap (expression_of _ _ _) (node_stays t h) ∙ expression_cong t _ _ _ _ _ _ e c l (node_in words t) (o.below t),
        ap (condition_of _ _) (node_stays t h) ∙ condition_cong t _ _ _ _ _ _ e c l (node_in words t) (o.below t),
        ap (arguments_of _ _) (node_stays t h) ∙ arguments_cong t _ _ _ _ _ _ e c l (node_in words t) (o.below t),
      )

  pub tree_stays : (t : ℕ) → left ≤ t → tree_in words' t ≡ tree_in words t
  unfolding tree_in
  tree_stays t h = (all_stay (1024 - t) t h).0

-- ---- procedures

pub held_more : (words roots counts : List ℕ) (p n : ℕ)
    → held_from words roots counts p (suc n) ≡ held_from words roots counts p n ++ (held_procedure words roots counts (p + n) ∷ [])
unfolding held_from
held_more words roots counts p zero = ap (λ (q : ℕ). held_procedure words roots counts q ∷ []) (same p)
  where
    same : (p : ℕ) → p ≡ p + 0
    same p = omega arith
held_more words roots counts p (suc n) =
    ap (λ (ds : List Procedure). held_procedure words roots counts p ∷ ds) (held_more words roots counts (suc p) n)
    ∙ ap (λ (q : ℕ). held_procedure words roots counts p ∷ (held_from words roots counts (suc p) n ++ (held_procedure words roots counts q ∷ []))) (next p n)
  where
    next : (p n : ℕ) → suc p + n ≡ p + suc n
    next p n = omega arith

-- they stay where their trees and their numbers do
pub held_stay : (words words' roots roots' counts counts' : List ℕ) (p n : ℕ)
    → ((q : ℕ) → p ≤ q → q < p + n → (tree_in words' (get_or roots' q 0) ≡ tree_in words (get_or roots q 0)) × (get_or counts' q 0 ≡ get_or counts q 0))
    → held_from words' roots' counts' p n ≡ held_from words roots counts p n
unfolding held_from held_procedure
held_stay words words' roots roots' counts counts' p zero h = refl
held_stay words words' roots roots' counts counts' p (suc n) h =
    ap₂ (λ (d : Procedure) (ds : List Procedure). d ∷ ds)
    (ap₂ (λ (k : ℕ) (e : Expression). record { parameters = k; body = e }) (h p (omega arith) (omega arith)).1 (h p (omega arith) (omega arith)).0)
    (held_stay words words' roots roots' counts counts' (suc p) n (λ q a b. h q (omega arith) (omega arith)))

-- the sizes of procedures behind others
pub sizes_append : (ds es : List Procedure) → size_of_all (ds ++ es) ≡ size_of_all ds + size_of_all es
unfolding size_of_all
sizes_append [] es = omega arith
sizes_append (d ∷ ds) es = by (size (terms_of d.body)) _ _ _ (sizes_append ds es)
  where
    by : (a b c d : ℕ) → b ≡ c + d → a + b ≡ a + c + d
    by a b c d e = omega arith
