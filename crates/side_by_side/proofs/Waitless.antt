-- The bodies of an accepted plan without a term of tag 18 have no wait. Assumes nothing.
use Prim.Native.Nat.{ℕ}
use mathlib.Core.Path.{◌≡◌, refl, sym, ◌∙◌, subst as along}
use mathlib.Core.Bool.{false}
use mathlib.Core.List.{List}
use mathlib.Core.Option.{none}
use lib.Dec.{lit<}
use Rattle.plan_packed.specs.Syntax.{Signal, Expression, Condition, Arguments, Procedure}
use Rattle.plan_packed.specs.Format.{root, tag_at}
use Rattle.plan_packed.specs.Trees.{ExpressionNode, Node, nodes, node_at, Stands, Standsᶜ, Standsᵃ, tree_at, procedure_at, program_of}
use Rattle.plan_packed.specs.Check.{refusal}
use Rattle.plan_packed.proofs.Decoded.{node_is, procedures_inside, accepted_stands}
use Rattle.plan_packed.proofs.Tags.{by_tag}
use Rattle.plan_packed.proofs.Children.{node_of_tag}
use Rattle.plan_packed.proofs.NodeOrder.{no_tag}
use Rattle.side_by_side.specs.LeftOut.{has_wait}
use Rattle.side_by_side.specs.Inner.Waitless.{Waitless, Waitlessᶜ, Waitlessᵃ, WaitlessProgram}

-- what a term of a table without a wait stands for has none
module _ (h : ℕ → Node) (w : (t i : ℕ) → h t ≡ Node.expression (ExpressionNode.signal Signal.wait i) → ⊥) where
  mutual
    tree_waitless : (t : ℕ) (e : Expression) → Stands h t e → Waitless e
    tree_waitless t (Expression.literal o) s = tt
    tree_waitless t (Expression.variable x) s = tt
    tree_waitless t (Expression.new fs) s = tt
    tree_waitless t (Expression.read e f) (i, _, s) = tree_waitless i e s
    tree_waitless t (Expression.write e f e') (i, j, _, s, s') = (tree_waitless i e s, tree_waitless j e' s')
    tree_waitless t (Expression.let_in x e e') (i, j, _, s, s') = (tree_waitless i e s, tree_waitless j e' s')
    tree_waitless t (Expression.if c e e') (i, j, k, _, s, s', s'') = (tree_waitlessᶜ i c s, tree_waitless j e s', tree_waitless k e' s'')
    tree_waitless t (Expression.while c e) (i, j, _, s, s') = (tree_waitlessᶜ i c s, tree_waitless j e s')
    tree_waitless t (Expression.call m es) (i, _, s) = tree_waitlessᵃ i es s
    tree_waitless t (Expression.fork e) (i, _, s) = tree_waitless i e s
    tree_waitless t (Expression.join e) (i, _, s) = tree_waitless i e s
    tree_waitless t (Expression.synch e e') (i, j, _, s, s') = (tree_waitless i e s, tree_waitless j e' s')
    tree_waitless t (Expression.hold o e) s = absurd s
    tree_waitless t (Expression.signal Signal.wait e) (i, q, s) = absurd (w t i q)
    tree_waitless t (Expression.signal Signal.notify e) (i, _, s) = (tt, tree_waitless i e s)
    tree_waitless t (Expression.signal Signal.notify_all e) (i, _, s) = (tt, tree_waitless i e s)
    tree_waitless t (Expression.waiting o) s = s

    tree_waitlessᶜ : (t : ℕ) (c : Condition) → Standsᶜ h t c → Waitlessᶜ c
    tree_waitlessᶜ t Condition.truth s = tt
    tree_waitlessᶜ t (Condition.not c) (i, _, s) = tree_waitlessᶜ i c s
    tree_waitlessᶜ t (Condition.and c c') (i, j, _, s, s') = (tree_waitlessᶜ i c s, tree_waitlessᶜ j c' s')
    tree_waitlessᶜ t (Condition.equal e e') (i, j, _, s, s') = (tree_waitless i e s, tree_waitless j e' s')

    tree_waitlessᵃ : (t : ℕ) (es : Arguments) → Standsᵃ h t es → Waitlessᵃ es
    tree_waitlessᵃ t Arguments.end s = tt
    tree_waitlessᵃ t (Arguments.argument e es) (i, j, _, s, s') = (tree_waitless i e s, tree_waitlessᵃ j es s')

-- only tag 18 is a wait
tag_wait : (x y z i k : ℕ) → node_of_tag k x y z ≡ Node.expression (ExpressionNode.signal Signal.wait i) → k ≡ 18
unfolding nodes
tag_wait x y z i =
    by_tag (λ k. node_of_tag k x y z ≡ Node.expression (ExpressionNode.signal Signal.wait i) → k ≡ 18)
    (λ e. cc) (λ e. cc) (λ e. cc) (λ e. cc) (λ e. cc) (λ e. cc) (λ e. cc) (λ e. cc) (λ e. cc) (λ e. cc) (λ e. cc) (λ e. cc) (λ e. cc) (λ e. cc) (λ e. cc)
    (λ e. cc) (λ e. cc) (λ e. cc) (λ e. cc) (λ e. cc) (λ e. cc) (λ n e. cc)

module _ (b : List ℕ) (a : refusal b ≡ none) (h : has_wait b ≡ false) where
  no_wait : (t i : ℕ) → node_at b t ≡ Node.expression (ExpressionNode.signal Signal.wait i) → ⊥
  unfolding has_wait
  no_wait t i e = no_tag b a 18 (lit< tt) h t (tag_wait _ _ _ i (tag_at b t) (sym (node_is b t (tag_at b t) refl) ∙ e))

  pub waitless : WaitlessProgram (program_of b)
  unfolding procedure_at
  waitless = record {
    bodies = λ m d e.
        let k = procedures_inside b m d e in
        along (λ (x : Procedure). Waitless x.body) (sym k.1)
        (tree_waitless (node_at b) no_wait (root b m) (tree_at b (root b m)) (accepted_stands b a m k.0));
  }
