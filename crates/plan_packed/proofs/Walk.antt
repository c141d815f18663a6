-- Check 7: the tree of a term from the trees of its children, by its tag. Assumes nothing.
use mathlib.Core.Path.{◌≡◌, refl, ap, sym, subst, ◌∙◌}
use mathlib.Core.Bool.{Bool, true}
use mathlib.Core.List.{List, [], ◌∷◌}
use Prim.Native.Nat.{ℕ, zero, suc, ◌<◌}
use native.Mathlib.Omega.{arith}
use lib.ListN.{get_or}
use Rattle.format.proofs.Ranges.{NoneOf}
use Rattle.plan_packed.specs.Syntax.{Expression, Condition, Arguments}
use Rattle.plan_packed.specs.Format.{table, layout}
use Rattle.plan_packed.specs.Inner.Operands.{tag_of, slot_bits}
use Rattle.plan_packed.specs.Trees.{nodes, node_of, expression_of, condition_of, arguments_of}
use Rattle.plan_packed.specs.Slots.{closed, closedᶜ, closedᵃ}
use Rattle.plan_packed.specs.Inner.Steps.{Ordered, NamesLater, in_word, node_in, tree_in, condition_in, list_in, leaf_in}
use Rattle.plan_packed.proofs.Tags.{except}
use Rattle.plan_packed.proofs.TreeLaws.{tree, treeᶜ, treeᵃ, tree_law, tree_lawᶜ, tree_lawᵃ}
use Rattle.plan_packed.proofs.SingleTerm.{row_of, row_is, node_in_lem}
use Rattle.plan_packed.proofs.Children.{list_ends}

-- ---- the tree of a term from those of its children

module _ (ws : List ℕ) (o : Ordered ws) where
  module _ (t k : ℕ) (e : tag_of (get_or ws t 0) ≡ k) where
    pub expr_is : tree_in ws t ≡ expression_of (tree_in ws) (condition_in ws) (list_in ws) (row_of k (get_or ws t 0))
    unfolding tree_in condition_in list_in tree treeᶜ treeᵃ
    expr_is = tree_law (node_in ws) 1024 o t ∙ ap (expression_of (tree_in ws) (condition_in ws) (list_in ws)) (node_in_lem ws t k e)

    pub cond_is : condition_in ws t ≡ condition_of (tree_in ws) (condition_in ws) (row_of k (get_or ws t 0))
    unfolding tree_in condition_in list_in tree treeᶜ treeᵃ
    cond_is = tree_lawᶜ (node_in ws) 1024 o t ∙ ap (condition_of (tree_in ws) (condition_in ws)) (node_in_lem ws t k e)

    pub list_is : list_in ws t ≡ arguments_of (tree_in ws) (list_in ws) (row_of k (get_or ws t 0))
    unfolding tree_in condition_in list_in tree treeᶜ treeᵃ
    list_is = tree_lawᵃ (node_in ws) 1024 o t ∙ ap (arguments_of (tree_in ws) (list_in ws)) (node_in_lem ws t k e)

    -- the children come after
    pub row_below : NamesLater t (row_of k (get_or ws t 0))
    row_below = subst (NamesLater t) (node_in_lem ws t k e) (o.below t)

-- a term without children
module _ (e e' : ℕ → Expression) (c c' : ℕ → Condition) (l l' : ℕ → Arguments) (w : ℕ) where
  leaf_same : (k : ℕ) → k < 3 → expression_of e c l (row_of k w) ≡ expression_of e' c' l' (row_of k w)
  unfolding node_of in_word layout table nodes expression_of
  leaf_same zero h = refl
  leaf_same (suc zero) h = refl
  leaf_same (suc (suc zero)) h = refl
  leaf_same (suc (suc (suc k))) h = absurd (omega arith)

pub leaf_is : (ws : List ℕ) → Ordered ws → (t : ℕ) → tag_of (get_or ws t 0) < 3 → tree_in ws t ≡ leaf_in (get_or ws t 0)
unfolding leaf_in
leaf_is ws o t h =
    let w = get_or ws t 0 in
    let k = tag_of w in
    expr_is ws o t k refl ∙ leaf_same _ _ _ _ _ _ w k h
    ∙ sym (ap (expression_of (λ i. Expression.literal 0) (λ i. Condition.truth) (λ i. Arguments.end)) (row_is w k refl))

leaf_row : (w k : ℕ) → tag_of w ≡ k → leaf_in w ≡ expression_of (λ i. Expression.literal 0) (λ i. Condition.truth) (λ i. Arguments.end) (row_of k w)
unfolding leaf_in
leaf_row w k e = ap (expression_of (λ i. Expression.literal 0) (λ i. Condition.truth) (λ i. Arguments.end)) (row_is w k e)

pub leaf_closed : (w : ℕ) (ρ : ℕ → Bool) → tag_of w < 3 → (tag_of w ≡ 1 → ⊥) → true ≡ closed ρ (leaf_in w)
unfolding node_of in_word layout table nodes expression_of closed
leaf_closed w ρ h n = go (tag_of w) refl h n
  where
    go : (k : ℕ) → tag_of w ≡ k → k < 3 → (k ≡ 1 → ⊥) → true ≡ closed ρ (leaf_in w)
    go zero e h n = sym (ap (closed ρ) (leaf_row w 0 e))
    go (suc zero) e h n = absurd (n refl)
    go (suc (suc zero)) e h n = sym (ap (closed ρ) (leaf_row w 2 e))
    go (suc (suc (suc k))) e h n = absurd (omega arith)

pub leaf_variable : (w : ℕ) (ρ : ℕ → Bool) → tag_of w ≡ 1 → ρ (slot_bits w) ≡ closed ρ (leaf_in w)
unfolding node_of in_word layout table nodes expression_of closed
leaf_variable w ρ e = sym (ap (closed ρ) (leaf_row w 1 e))

-- ---- the tags that are no inner node of their sort

module _ (e : ℕ → Expression) (c : ℕ → Condition) (l : ℕ → Arguments) (ρ : ℕ → Bool) (w : ℕ) where
  pub expr_rest : (k : ℕ) → NoneOf k (20 ∷ 19 ∷ 18 ∷ 11 ∷ 10 ∷ 9 ∷ 8 ∷ 7 ∷ 6 ∷ 5 ∷ 4 ∷ 3 ∷ 1 ∷ []) → closed ρ (expression_of e c l (row_of k w)) ≡ true
  unfolding node_of in_word layout table nodes closed expression_of
  expr_rest k = except (λ k. closed ρ (expression_of e c l (row_of k w)) ≡ true)
      (20 ∷ 19 ∷ 18 ∷ 11 ∷ 10 ∷ 9 ∷ 8 ∷ 7 ∷ 6 ∷ 5 ∷ 4 ∷ 3 ∷ 1 ∷ []) refl tt refl tt tt tt tt tt tt tt tt tt refl refl refl refl refl refl tt tt tt
      (λ j. refl) k

  pub cond_rest : (k : ℕ) → NoneOf k (15 ∷ 14 ∷ 13 ∷ []) → closedᶜ ρ (condition_of e c (row_of k w)) ≡ true
  unfolding node_of in_word layout table nodes closed condition_of
  cond_rest k = except (λ k. closedᶜ ρ (condition_of e c (row_of k w)) ≡ true) (15 ∷ 14 ∷ 13 ∷ []) refl refl refl refl refl refl refl refl refl refl refl refl
      refl tt tt tt refl refl refl refl refl (λ j. refl) k

  pub list_rest : (k : ℕ) → (k ≡ 16 → ⊥) → closedᵃ ρ (arguments_of e l (row_of k w)) ≡ true
  unfolding node_of in_word closed
  list_rest k h = ap (closedᵃ ρ) (list_ends e l _ _ _ k h)
