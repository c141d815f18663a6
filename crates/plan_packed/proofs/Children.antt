-- The children of a term: its node in the array, its operands that are children, and the tags that end a list. Assumes nothing.
use mathlib.Core.Path.{◌≡◌, refl, ap, sym, ◌∙◌}
use mathlib.Core.Bool.{false}
use mathlib.Core.List.{List, [], ◌∷◌}
use Prim.Native.Nat.{ℕ, ◌<◌}
use lib.ListN.{get_or}
use Rattle.plan_packed.specs.Syntax.{Expression, Arguments}
use Rattle.plan_packed.specs.Format.{terms, table, layout, laid_out, Term, term_at, tag_at}
use Rattle.plan_packed.specs.Trees.{Node, nodes, node_of, node_at, arguments_of}
use Rattle.plan_packed.specs.Refusals.{wrong_term}
use Rattle.plan_packed.specs.Inner.Steps.{Sized, Loaded, node_in, term_in, Child, children_of}
use Rattle.plan_packed.proofs.Reading.{term_is}
use Rattle.plan_packed.proofs.Tags.{by_tag, except}
use Rattle.plan_packed.proofs.SingleTerm.{IfChild, children_between}

abbrev pub Within : ℕ → List Child → Type 0
Within n [] = Unit {0}
Within n (k ∷ ks) = (k.index < n) × Within n ks

-- a node of the array is the plan's
pub nodes_are : (b : List ℕ) (n : ℕ) (ws : List ℕ) → Loaded b n ws → (t : ℕ) → t < n → node_in ws t ≡ node_at b t
unfolding node_in node_at
nodes_are b n ws l t h = ap (λ (w : ℕ). node_of (term_in w)) (l.each t h) ∙ sym (ap node_of (term_is b t))

-- ---- the children of a term

-- a term of tag k
abbrev pub term_of : ℕ → ℕ → ℕ → ℕ → ℕ → Term
term_of k x y z s = record {
  tag = k;
  first = (layout k).first;
  value₁ = x;
  second = (layout k).second;
  value₂ = y;
  third = (layout k).third;
  value₃ = z;
  spare =
      s;
}

abbrev pub node_of_tag : ℕ → ℕ → ℕ → ℕ → Node
node_of_tag k x y z = get_or nodes k (λ x y z. Node.unknown) x y z

-- the children of a right term are below the count
rows_within : (n x y z k : ℕ) → IfChild (λ v. v < n) (layout k).first x → IfChild (λ v. v < n) (layout k).second y
    → IfChild (λ v. v < n) (layout k).third z → Within n (children_of (node_of_tag k x y z))
unfolding layout table nodes children_of
rows_within n x y z k =
    by_tag (λ k. IfChild (λ v. v < n) (layout k).first x → IfChild (λ v. v < n) (layout k).second y → IfChild (λ v. v < n) (layout k).third z
    → Within n (children_of (node_of_tag k x y z)))
    (λ a b c. tt)
    (λ a b c. tt)
    (λ a b c. tt)
    (λ a b c. (a refl, tt))
    (λ a b c. (a refl, (c refl, tt)))
    (λ a b c. (b refl, (c refl, tt)))
    (λ a b c. (a refl, (b refl, (c refl, tt))))
    (λ a b c. (a refl, (b refl, tt)))
    (λ a b c. (b refl, tt))
    (λ a b c. (a refl, tt))
    (λ a b c. (a refl, tt))
    (λ a b c. (a refl, (b refl, tt)))
    (λ a b c. tt)
    (λ a b c. (a refl, tt))
    (λ a b c. (a refl, (b refl, tt)))
    (λ a b c. (a refl, (b refl, tt)))
    (λ a b c. (a refl, (b refl, tt)))
    (λ a b c. tt)
    (λ a b c. (a refl, tt))
    (λ a b c. (a refl, tt))
    (λ a b c. (a refl, tt))
    (λ j a b c. tt) k

pub children_within : (b : List ℕ) (procedures n u : ℕ) → Sized b procedures n → wrong_term b u ≡ false → Within n (children_of (node_at b u))
unfolding term_at laid_out node_at node_of
children_within b procedures n u z h =
    let f = children_between b u h in
    rw z.terms_are (rows_within (terms b) _ _ _ (tag_at b u) (λ c. (f.0 c).1) (λ c. (f.1 c).1) (λ c. (f.2 c).1))

-- every tag but 16 ends a list
pub list_ends : (e : ℕ → Expression) (l : ℕ → Arguments) (x y z k : ℕ) → (k ≡ 16 → ⊥) → arguments_of e l (node_of_tag k x y z) ≡ Arguments.end
unfolding nodes arguments_of
list_ends e l x y z k h =
    except (λ k. arguments_of e l (node_of_tag k x y z) ≡ Arguments.end) (16 ∷ []) refl refl refl refl refl refl refl refl refl refl refl refl refl refl refl
    refl tt refl refl refl refl (λ j. refl) k (tt, h)
