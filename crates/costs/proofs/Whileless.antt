-- A plan in which no while occurs has trees without one. Assumes nothing.
use Prim.Native.Nat.{ℕ}
use mathlib.Core.Path.{◌≡◌, refl, sym, ◌∙◌, subst as along}
use mathlib.Core.Bool.{false}
use mathlib.Core.List.{List}
use mathlib.Core.Option.{some, none}
use lib.Dec.{lit<}
use lib.ListN.{get_elem?}
use Rattle.plan_packed.specs.Syntax.{Expression, Condition, Arguments, Procedure}
use Rattle.plan_packed.specs.Format.{root, tag_at}
use Rattle.plan_packed.specs.Trees.{ExpressionNode, Node, nodes, node_at, Stands, Standsᶜ, Standsᵃ, tree_at, procedure_at, program_of}
use Rattle.plan_packed.specs.Check.{refusal}
use Rattle.plan_packed.proofs.Decoded.{node_is, procedures_inside, accepted_stands}
use Rattle.plan_packed.proofs.Tags.{by_tag}
use Rattle.plan_packed.proofs.Children.{node_of_tag}
use Rattle.plan_packed.proofs.NodeOrder.{no_tag}
use Rattle.costs.specs.Bound.{has_while}
use Rattle.costs.proofs.Loopless.{Loopless, Looplessᶜ, Looplessᵃ}

-- what a term of a table without a while stands for has none
module _ (h : ℕ → Node) (w : (t i j : ℕ) → h t ≡ Node.expression (ExpressionNode.while i j) → ⊥) where
  mutual
    tree_loopless : (t : ℕ) (e : Expression) → Stands h t e → Loopless e
    tree_loopless t (Expression.literal o) s = tt
    tree_loopless t (Expression.variable x) s = tt
    tree_loopless t (Expression.new fs) s = tt
    tree_loopless t (Expression.read e f) (i, _, s) = tree_loopless i e s
    tree_loopless t (Expression.write e f e') (i, j, _, s, s') = (tree_loopless i e s, tree_loopless j e' s')
    tree_loopless t (Expression.let_in x e e') (i, j, _, s, s') = (tree_loopless i e s, tree_loopless j e' s')
    tree_loopless t (Expression.if c e e') (i, j, k, _, s, s', s'') = (tree_looplessᶜ i c s, tree_loopless j e s', tree_loopless k e' s'')
    tree_loopless t (Expression.while c e) (i, j, q, _, _) = w t i j q
    tree_loopless t (Expression.call m es) (i, _, s) = tree_looplessᵃ i es s
    tree_loopless t (Expression.fork e) (i, _, s) = tree_loopless i e s
    tree_loopless t (Expression.join e) (i, _, s) = tree_loopless i e s
    tree_loopless t (Expression.synch e e') (i, j, _, s, s') = (tree_loopless i e s, tree_loopless j e' s')
    tree_loopless t (Expression.hold o e) s = absurd s
    tree_loopless t (Expression.signal k e) (i, _, s) = tree_loopless i e s
    tree_loopless t (Expression.waiting o) s = absurd s

    tree_looplessᶜ : (t : ℕ) (c : Condition) → Standsᶜ h t c → Looplessᶜ c
    tree_looplessᶜ t Condition.truth s = tt
    tree_looplessᶜ t (Condition.not c) (i, _, s) = tree_looplessᶜ i c s
    tree_looplessᶜ t (Condition.and c c') (i, j, _, s, s') = (tree_looplessᶜ i c s, tree_looplessᶜ j c' s')
    tree_looplessᶜ t (Condition.equal e e') (i, j, _, s, s') = (tree_loopless i e s, tree_loopless j e' s')

    tree_looplessᵃ : (t : ℕ) (es : Arguments) → Standsᵃ h t es → Looplessᵃ es
    tree_looplessᵃ t Arguments.end s = tt
    tree_looplessᵃ t (Arguments.argument e es) (i, j, _, s, s') = (tree_loopless i e s, tree_looplessᵃ j es s')

-- only tag 7 is a while
tag_while : (x y z i j k : ℕ) → node_of_tag k x y z ≡ Node.expression (ExpressionNode.while i j) → k ≡ 7
unfolding nodes
tag_while x y z i j =
    by_tag (λ k. node_of_tag k x y z ≡ Node.expression (ExpressionNode.while i j) → k ≡ 7)
    (λ e. cc) (λ e. cc) (λ e. cc) (λ e. cc) (λ e. cc) (λ e. cc) (λ e. cc) (λ e. cc) (λ e. cc) (λ e. cc) (λ e. cc) (λ e. cc) (λ e. cc) (λ e. cc) (λ e. cc)
    (λ e. cc) (λ e. cc) (λ e. cc) (λ e. cc) (λ e. cc) (λ e. cc) (λ n e. cc)

module _ (b : List ℕ) (a : refusal b ≡ none) (h : has_while b ≡ false) where
  no_while : (t i j : ℕ) → node_at b t ≡ Node.expression (ExpressionNode.while i j) → ⊥
  unfolding has_while
  no_while t i j e = no_tag b a 7 (lit< tt) h t (tag_while _ _ _ i j (tag_at b t) (sym (node_is b t (tag_at b t) refl) ∙ e))

  pub bodies_loopless : (m : ℕ) (d : Procedure) → get_elem? (program_of b).procedures m ≡ some d → Loopless d.body
  unfolding procedure_at
  bodies_loopless m d e =
      let k = procedures_inside b m d e in
      along (λ (x : Procedure). Loopless x.body) (sym k.1)
      (tree_loopless (node_at b) no_while (root b m) (tree_at b (root b m)) (accepted_stands b a m k.0))
