-- A call of an accepted plan has at most eight arguments where its list begins, and a list has one less after each of its terms. Assumes nothing.
use Prim.Native.Nat.{ℕ, zero, suc, ◌+◌, ◌-◌, ◌≤◌, ◌<◌}
use native.Mathlib.Omega.{arith}
use mathlib.Core.Path.{◌≡◌, refl, ap, ◌∙◌}
use mathlib.Core.Bool.{Bool, true, false, cond}
use mathlib.Core.List.{List}
use lib.Dec.{eqb}
use borrow.Author.Tests.{eqb-true, eqb-false}
use Rattle.plan_packed.specs.Format.{procedures, terms, list, table, layout, tag_at, term_at}
use Rattle.plan_packed.specs.Trees.{ArgumentsNode, Node, nodes, node_at, arguments_of, expression_at, arguments_at}
use Rattle.plan_packed.specs.Refusals.{list_length}
use Rattle.plan_packed.specs.Inner.Steps.{Descending}
use Rattle.plan_packed.proofs.WellFormed.{count}
use Rattle.plan_packed.proofs.Accepted.{Accepted}
use Rattle.plan_packed.proofs.Decoded.{node_is}
use Rattle.plan_packed.proofs.Children.{list_ends}
use Rattle.plan_packed.proofs.TreeLaws.{treeᵃ, tree_lawᵃ, arguments_fuel}
use Rattle.machine.proofs.PlanTable.{ordered}

-- ---- one term of a list

pub list_left : (h : ℕ → Node) (N : ℕ) → Descending h N → (t i j : ℕ) → h t ≡ Node.arguments (ArgumentsNode.list i j)
    → count (treeᵃ h N t) ≡ suc (count (treeᵃ h N j))
unfolding arguments_of
list_left h N o t i j e = ap count (tree_lawᵃ h N o t) ∙ rw e

-- ---- the trees' count is the check's count

pub list_counted : (b : List ℕ) (k t : ℕ) → count (arguments_at (node_at b) k t) ≡ list_length b k t
unfolding arguments_at list_length nodes
list_counted b zero t = refl
list_counted b (suc k) t = at (eqb (tag_at b t) 16) refl (list_counted b k (term_at b t).value₂)
  where
    at : (x : Bool) → eqb (tag_at b t) 16 ≡ x → count (arguments_at (node_at b) k (term_at b t).value₂) ≡ list_length b k (term_at b t).value₂
        → count (arguments_of (λ i. expression_at (node_at b) k i) (λ i. arguments_at (node_at b) k i) (node_at b t))
        ≡ cond x (suc (list_length b k (term_at b t).value₂)) 0
    at true e r = ap (λ (m : Node). count (arguments_of (λ i. expression_at (node_at b) k i) (λ i. arguments_at (node_at b) k i) m))
        (node_is b t 16 (eqb-true (tag_at b t) 16 e)) ∙ ap suc r
    at false e r = ap (λ (m : Node). count (arguments_of (λ i. expression_at (node_at b) k i) (λ i. arguments_at (node_at b) k i) m))
        (node_is b t (tag_at b t) refl) ∙ ap count (list_ends _ _ _ _ _ (tag_at b t) (eqb-false (tag_at b t) 16 e))

-- ---- an accepted plan

module _ (b : List ℕ) (a : Accepted b) where
  tree_counted : (t : ℕ) → count (treeᵃ (node_at b) (terms b) t) ≡ list_length b (terms b) t
  unfolding treeᵃ
  tree_counted t =
      let n = terms b in
      ap count (arguments_fuel (node_at b) n (ordered b a) (n - t) n t (enough n t) (omega arith)) ∙ list_counted b n t
    where
      enough : (n t : ℕ) → n ≤ t + (n - t)
      enough n t = omega arith

  -- where a call's list begins
  pub call_fits : (t : ℕ) → t < terms b → tag_at b t ≡ 8 → count (treeᵃ (node_at b) (terms b) (term_at b t).value₂) ≤ 8
  unfolding layout table
  call_fits t h e =
      let m = a.each_term t h in
      let p : (term_at b t).value₁ < procedures b = rw e at m.first_fits in
      omega (arith, tree_counted (term_at b t).value₂, m.call_counts e, (a.each_procedure (term_at b t).value₁ p).few_parameters)
