-- The nodes of a plan whose terms are right: children come after their parents, and past the last term there are nulls; so the array has the plan's trees.
-- Assumes nothing.
use mathlib.Core.Path.{◌≡◌, refl, sym, ◌∙◌, fun_ext}
use mathlib.Core.Bool.{false}
use mathlib.Core.List.{List}
use mathlib.Core.Option.{none}
use Prim.Native.Nat.{ℕ, ◌+◌, ◌-◌, ◌*◌, ◌≤◌, ◌<◌}
use native.Mathlib.Decide.{dec_lt}
use native.Mathlib.Omega.{arith}
use lib.Dec.{eqb}
use lib.ListN.{length}
use borrow.Author.Tests.{eqb-false}
use Rattle.format.proofs.BitLaws.{bits_past}
use Rattle.plan_packed.specs.Format
use Rattle.plan_packed.specs.Format.{terms, plan_length, table, layout, term_bit, term_at, tag_at}
use Rattle.plan_packed.specs.Trees.{ExpressionNode, Node, nodes, node_of, node_at, tree_at}
use Rattle.plan_packed.specs.Inner.Steps.{Right, Loaded, Ordered, Descending, NamesLater, in_word, term_in, node_in, tree_in}
use Rattle.plan_packed.specs.Refusals.{any_below}
use Rattle.plan_packed.specs.Check.{refusal}
use Rattle.plan_packed.proofs.Tags.{by_tag}
use Rattle.plan_packed.proofs.Passing.{none_of}
use Rattle.plan_packed.proofs.Accepted.{accepted}
use Rattle.plan_packed.proofs.Decoded.{node_is}
use Rattle.plan_packed.proofs.TreeLaws.{expression_fuel}
use Rattle.plan_packed.proofs.SingleTerm.{IfChild, children_between}
use Rattle.plan_packed.proofs.Children.{node_of_tag, nodes_are}

-- ---- children come after their parents

rows_below : (t x y z k : ℕ) → IfChild (λ v. t < v) (layout k).first x → IfChild (λ v. t < v) (layout k).second y → IfChild (λ v. t < v) (layout k).third z
    → NamesLater t (node_of_tag k x y z)
unfolding layout table nodes
rows_below t x y z k =
    by_tag (λ k. IfChild (λ v. t < v) (layout k).first x → IfChild (λ v. t < v) (layout k).second y → IfChild (λ v. t < v) (layout k).third z
    → NamesLater t (node_of_tag k x y z))
    (λ a b c. tt)
    (λ a b c. tt)
    (λ a b c. tt)
    (λ a b c. a refl)
    (λ a b c. (a refl, c refl))
    (λ a b c. (b refl, c refl))
    (λ a b c. (a refl, b refl, c refl))
    (λ a b c. (a refl, b refl))
    (λ a b c. b refl)
    (λ a b c. a refl)
    (λ a b c. a refl)
    (λ a b c. (a refl, b refl))
    (λ a b c. tt)
    (λ a b c. a refl)
    (λ a b c. (a refl, b refl))
    (λ a b c. (a refl, b refl))
    (λ a b c. (a refl, b refl))
    (λ a b c. tt)
    (λ a b c. a refl)
    (λ a b c. a refl)
    (λ a b c. a refl)
    (λ j a b c. tt) k

-- the children among a term's operands come after it
abbrev pub Descends : List ℕ → ℕ → Type 0
Descends b t =
    IfChild (λ v. t < v) (layout (tag_at b t)).first (term_at b t).value₁
    × IfChild (λ v. t < v) (layout (tag_at b t)).second (term_at b t).value₂
    × IfChild (λ v. t < v) (layout (tag_at b t)).third (term_at b t).value₃

-- past the last term the tags are 0
past_tag : (b : List ℕ) → length b ≡ plan_length b → (t : ℕ) → terms b ≤ t → tag_at b t ≡ 0
unfolding tag_at term_bit plan_length
past_tag b whole t h = bits_past b (term_bit b t) 5 (far (length b) (Format.procedures b) (terms b) t whole h)
  where
    far : (l p n t : ℕ) → l ≡ 8 + 2 * p + 5 * n → n ≤ t → l * 8 ≤ (8 + 2 * p + 5 * t) * 8
    far l p n t e h = omega arith

-- so a tag over 0 that no term of an accepted plan has is found nowhere
pub no_tag : (b : List ℕ) → refusal b ≡ none → (k : ℕ) → 0 < k → any_below (terms b) (λ t. eqb (tag_at b t) k) ≡ false → (t : ℕ) → tag_at b t ≡ k → ⊥
no_tag b a k some h t e = go (dec_lt t (terms b))
  where
    go : Dec (t < terms b) → ⊥
    go (yes q) = eqb-false (tag_at b t) k (none_of (terms b) (λ t. eqb (tag_at b t) k) h t q) e
    go (no q) = let z = past_tag b (accepted b a).length_right t (omega (arith, q)) in omega arith

pub descending : (b : List ℕ) → length b ≡ plan_length b → ((t : ℕ) → t < terms b → Descends b t) → Descending (node_at b) (terms b)
unfolding nodes
descending b whole each = record { past = past; below = λ t. below t (dec_lt t (terms b)) }
  where
    past : (t : ℕ) → terms b ≤ t → node_at b t ≡ Node.expression ExpressionNode.null
    past t h = node_is b t 0 (past_tag b whole t h)

    below : (t : ℕ) → Dec (t < terms b) → NamesLater t (node_at b t)
    below t (yes h) = let d = each t h in rw (node_is b t (tag_at b t) refl) (rows_below t _ _ _ (tag_at b t) d.0 d.1 d.2)
    below t (no h) = rw (past t (omega (arith, h))) tt

right_descends : (b : List ℕ) (procedures n : ℕ) → Right b procedures n → Descending (node_at b) (terms b)
unfolding plan_length
right_descends b procedures n r = let z = r.headed.sized in descending b (z.long ∙ rw (z.procedures_are, z.terms_are)) each
  where
    each : (t : ℕ) → t < terms b → Descends b t
    each t h =
        let f = children_between b t (r.terms_right t (rw r.headed.sized.terms_are h)) in
        (λ c. (f.0 c).0, λ c. (f.1 c).0, λ c. (f.2 c).0)

-- ---- the array's nodes are the plan's, and their trees too

module _ (b : List ℕ) (procedures n : ℕ) (r : Right b procedures n) (ws : List ℕ) (d : Loaded b n ws) where
  all_nodes : node_in ws ≡ node_at b
  unfolding node_in nodes node_of term_in in_word layout table
  all_nodes = fun_ext (λ t. go t (dec_lt t n))
    where
      go : (t : ℕ) → Dec (t < n) → node_in ws t ≡ node_at b t
      go t (yes h) = nodes_are b n ws d t h
      go t (no h) = rw (d.rest t (omega (arith, h))) (sym ((right_descends b procedures n r).past t (let e = r.headed.sized.terms_are in omega (arith, h))))

  pub ordered : Ordered ws
  ordered =
      let f = r.headed.few in
      let e = r.headed.sized.terms_are in
      let o = right_descends b procedures n r in
      rw all_nodes (record { past = λ t h. o.past t (omega arith); below = o.below })

  pub tree_is : (t : ℕ) → tree_in ws t ≡ tree_at b t
  unfolding tree_in tree_at
  tree_is t =
      let f = r.headed.few in
      let e = r.headed.sized.terms_are in
      rw all_nodes (expression_fuel (node_at b) (terms b) (right_descends b procedures n r) (1024 - t) (terms b - t) t (omega arith) (omega arith))
