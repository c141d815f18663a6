-- The trees of a plan that passes checks 1 to 6: each term of a tree stands for its part of it. Of one that is not refused, the program is well-formed; of
-- one that 7 refuses, the tree of the procedure has an unbound slot. Assumes nothing.
use Prim.Native.Nat.{ℕ, zero, suc, ◌+◌, ◌-◌, ◌≤◌, ◌<◌}
use native.Mathlib.Decide.{ℕ_discrete}
use native.Mathlib.Omega.{arith}
use mathlib.Core.Path.{◌≡◌, refl, ap, sym, subst, ◌∙◌}
use mathlib.Core.Bool.{Bool, false, ◌&&◌, true≢false}
use mathlib.Core.List.{List}
use mathlib.Core.Logic.{inl, inr}
use mathlib.Core.Option.{some, none}
use lib.Dec.{T, ltb, lit<}
use lib.ListN.{take, get_elem?}
use mir.Facts.{and_yes}
use borrow.Author.Tests.{not-true}
use Rattle.format.specs.Refusal.{first_refusal}
use Rattle.plan_packed.specs.Syntax.{Expression, Condition, Arguments, Procedure}
use Rattle.plan_packed.specs.Format.{procedures, terms, parameters, root, expression, condition, list, table, layout, laid_out, tag_at, term_at}
use Rattle.plan_packed.specs.Trees.{Node, binder_of, nodes, node_of, node_at, Stands, Standsᶜ, Standsᵃ, expression_of, condition_of, arguments_of, expression_at}
use Rattle.plan_packed.specs.Trees.{condition_at, arguments_at, tree_at, procedure_at, procedures_from, program_of}
use Rattle.plan_packed.specs.Slots.{bound, closed, closedᶜ, closedᵃ}
use Rattle.plan_packed.specs.Refusals.{list_length, uses_unbound_slot}
use Rattle.plan_packed.specs.Check.{checks, refusal}
use Rattle.plan_packed.proofs.Children.{node_of_tag}
use Rattle.plan_packed.proofs.WellFormed.{count, Callable, WellFormed, WellFormedᶜ, WellFormedᵃ, WellFormedProgram}
use Rattle.plan_packed.proofs.Passing.{six_right, seventh}
use Rattle.plan_packed.proofs.Accepted.{OfSort, Child, Fits, RightTerm, Readable, readable, Accepted, accepted, its_trees}
use Rattle.plan_packed.proofs.ListLaws.{list_step, list_stop}

infixr 30 ◌gives◌then◌
-- ---- the procedures

procedures_from_lem : (b : List ℕ) (p n m k : ℕ) → m < n → k ≡ p + m → get_elem? (procedures_from b p n) m ≡ some (procedure_at b k)
unfolding procedures_from
procedures_from_lem b p zero m k h e = absurd (omega arith)
procedures_from_lem b p (suc n) zero k h e = let z : p ≡ k = omega arith in rw z
procedures_from_lem b p (suc n) (suc m) k h e = procedures_from_lem b (suc p) n m k (omega arith) (omega arith)

from_inside : (b : List ℕ) (p n m : ℕ) (d : Procedure) → get_elem? (procedures_from b p n) m ≡ some d → m < n
unfolding procedures_from
from_inside b p zero m d h = absurd (true≢false cc)
from_inside b p (suc n) zero d h = omega arith
from_inside b p (suc n) (suc m) d h = omega (arith, from_inside b (suc p) n m d h)

-- procedure m of the program is procedure m of the plan
pub procedures_are : (b : List ℕ) (m : ℕ) → m < procedures b → get_elem? (program_of b).procedures m ≡ some (procedure_at b m)
unfolding program_of
procedures_are b m h = procedures_from_lem b 0 (procedures b) m m h (omega arith)

-- and the program has no others
pub procedures_inside : (b : List ℕ) (m : ℕ) (d : Procedure) → get_elem? (program_of b).procedures m ≡ some d → (m < procedures b) × (d ≡ procedure_at b m)
unfolding program_of
procedures_inside b m d h =
    let q = from_inside b 0 (procedures b) m d h in
    let e = procedures_are b m q in
    (q, cc)

-- ---- tags in a row

-- a proof for each of the n numbers from i on
pub data Cases (P : ℕ → Type 0) : ℕ → ℕ → Type 0 where
  done : {i : ℕ} → Cases P i zero
  ◌gives◌then◌ : (i : ℕ) {n : ℕ} → P i → Cases P (suc i) n → Cases P i (suc n)

pub pick : {P : ℕ → Type 0} {i n : ℕ} → Cases P i n → (k : ℕ) → i ≤ k → k < i + n → P k
pick done k p q = absurd (omega arith)
pick {P} (◌gives◌then◌ i {n} x xs) k p q = go (ℕ_discrete i k) (pick xs k)
  where
    go : Dec (i ≡ k) → (suc i ≤ k → k < suc i + n → P k) → P k
    go (yes e) r = subst P e x
    go (no e) r = r (omega (arith, e)) (omega arith)

-- ---- a term, by its tag

callable : (b : List ℕ) (m k : ℕ) → m < procedures b → parameters b m ≡ k → Callable (program_of b) m k
unfolding procedure_at
callable b m k h e = (procedure_at b m, procedures_are b m h, e)

-- the node at term t, by its tag
pub node_is : (b : List ℕ) (t k : ℕ) → tag_at b t ≡ k → node_at b t ≡ node_of_tag k (term_at b t).value₁ (term_at b t).value₂ (term_at b t).value₃
unfolding node_at node_of term_at laid_out
node_is b t k e = ap (λ (i : ℕ). node_of_tag i (term_at b t).value₁ (term_at b t).value₂ (term_at b t).value₃) e

-- ---- a tree at its term

module _ (b : List ℕ) where
  -- term t stands for expression e, which is well-formed where its slots are bound
  abbrev Good : ℕ → Expression → Type 0
  Good t e = Stands (node_at b) t e × ((ρ : ℕ → Bool) → T (closed ρ e) → WellFormed (program_of b) 1 ρ e)

  abbrev Goodᶜ : ℕ → Condition → Type 0
  Goodᶜ t c = Standsᶜ (node_at b) t c × ((ρ : ℕ → Bool) → T (closedᶜ ρ c) → WellFormedᶜ (program_of b) 1 ρ c)

  -- and a list is as long as check 5 counts it
  abbrev Goodᵃ : ℕ → Arguments → Type 0
  Goodᵃ t es =
      Standsᵃ (node_at b) t es
      × ((ρ : ℕ → Bool) → T (closedᵃ ρ es) → WellFormedᵃ (program_of b) 1 ρ es)
      × ((m : ℕ) → terms b ≤ t + m → count es ≡ list_length b m t)

  -- every term with at most n terms from it on stands for its tree
  record AllGood (n : ℕ) : Type 0 where
    expression_good : (t : ℕ) → t < terms b → terms b ≤ t + n → OfSort expression (tag_at b t) → Good t (expression_at (node_at b) n t)
    condition_good : (t : ℕ) → t < terms b → terms b ≤ t + n → OfSort condition (tag_at b t) → Goodᶜ t (condition_at (node_at b) n t)
    list_good : (t : ℕ) → t < terms b → terms b ≤ t + n → OfSort list (tag_at b t) → Goodᵃ t (arguments_at (node_at b) n t)

  -- ---- the rows of the table

  module _ (t : ℕ) where
    abbrev pub x : ℕ
    x = (term_at b t).value₁

    abbrev pub y : ℕ
    y = (term_at b t).value₂

    abbrev pub z : ℕ
    z = (term_at b t).value₃

    -- what holds of the node if term t has tag k
    abbrev pub Row : (Node → Type 0) → ℕ → Type 0
    Row P k =
        tag_at b t ≡ k → Fits b t (layout k).first x → Fits b t (layout k).second y → Fits b t (layout k).third z → P (node_of_tag k x y z)

    -- the row of the term's own tag
    pub at_tag : (P : Node → Type 0) → RightTerm b t → Row P (tag_at b t) → P (node_at b t)
    at_tag P right row = subst P (sym (node_is b t (tag_at b t) refl)) (row refl right.first_fits right.second_fits right.third_fits)

    module _ (a : Readable b) (n : ℕ) (ih : AllGood n) (inside : t < terms b) (near : terms b ≤ t + suc n) where
      abbrev tree : ℕ → Expression
      tree i = expression_at (node_at b) n i

      abbrev treeᶜ : ℕ → Condition
      treeᶜ i = condition_at (node_at b) n i

      abbrev treeᵃ : ℕ → Arguments
      treeᵃ i = arguments_at (node_at b) n i

      good : (i : ℕ) → Child b t expression i → Good i (tree i)
      good i c = ih.expression_good i c.below (omega arith) c.sorted

      goodᶜ : (i : ℕ) → Child b t condition i → Goodᶜ i (treeᶜ i)
      goodᶜ i c = ih.condition_good i c.below (omega arith) c.sorted

      goodᵃ : (i : ℕ) → Child b t list i → Goodᵃ i (treeᵃ i)
      goodᵃ i c = ih.list_good i c.below (omega arith) c.sorted

      expressions : Cases (Row (λ m. Good t (expression_of tree treeᶜ treeᵃ m))) 0 12
      unfolding nodes layout table expression_of closed
      expressions =
          0 gives (λ e p q r. ((node_is b t 0 e, refl), λ ρ c. lit< tt))
          then 1 gives (λ e p q r. (node_is b t 1 e, λ ρ c. c))
          then 2 gives (λ e p q r. (node_is b t 2 e, λ ρ c. tt))
          then 3 gives (λ e p q r. ((x, node_is b t 3 e, (good x p).0), λ ρ c. (q.0, q.1, (good x p).1 ρ c)))
          then 4 gives (λ e p q r. (
            (x, z, node_is b t 4 e, (good x p).0, (good z r).0),
            λ ρ c.
                let d = and_yes (closed ρ (tree x)) (closed ρ (tree z)) c in (q.0, q.1, (good x p).1 ρ d.0, (good z r).1 ρ d.1),
          ))
          then 5 gives (λ e p q r. (
            (y, z, node_is b t 5 e, (good y q).0, (good z r).0),
            λ ρ c.
                let d = and_yes (closed ρ (tree y)) (closed (bound (binder_of x) ρ) (tree z)) c in
                ((good y q).1 ρ d.0, (good z r).1 (bound (binder_of x) ρ) d.1),
          ))
          then 6 gives (λ e p q r. (
            (x, y, z, node_is b t 6 e, (goodᶜ x p).0, (good y q).0, (good z r).0),
            λ ρ c.
                let d = and_yes (closedᶜ ρ (treeᶜ x) && closed ρ (tree y)) (closed ρ (tree z)) c in
                let a = and_yes (closedᶜ ρ (treeᶜ x)) (closed ρ (tree y)) d.0 in
                ((goodᶜ x p).1 ρ a.0, (good y q).1 ρ a.1, (good z r).1 ρ d.1),
          ))
          then 7 gives (λ e p q r. (
            (x, y, node_is b t 7 e, (goodᶜ x p).0, (good y q).0),
            λ ρ c.
                let d = and_yes (closedᶜ ρ (treeᶜ x)) (closed ρ (tree y)) c in ((goodᶜ x p).1 ρ d.0, (good y q).1 ρ d.1),
          ))
          then 8 gives (λ e p q r. (
            (y, node_is b t 8 e, (goodᵃ y q).0),
            λ ρ c.
                (callable b x (count (treeᵃ y)) p (sym ((goodᵃ y q).2 (terms b) (omega arith) ∙ (a.each_term t inside).call_counts e)), (goodᵃ y q).1 ρ c),
          ))
          then 9 gives (λ e p q r. ((x, node_is b t 9 e, (good x p).0), (good x p).1))
          then 10 gives (λ e p q r. ((x, node_is b t 10 e, (good x p).0), (good x p).1))
          then 11 gives (λ e p q r. (
            (x, y, node_is b t 11 e, (good x p).0, (good y q).0),
            λ ρ c.
                let d = and_yes (closed ρ (tree x)) (closed ρ (tree y)) c in ((good x p).1 ρ d.0, (good y q).1 ρ d.1),
          ))
          then done

      signals : Cases (Row (λ m. Good t (expression_of tree treeᶜ treeᵃ m))) 18 3
      unfolding nodes layout table expression_of closed
      signals =
          18 gives (λ e p q r. ((x, node_is b t 18 e, (good x p).0), (good x p).1))
          then 19 gives (λ e p q r. ((x, node_is b t 19 e, (good x p).0), (good x p).1))
          then 20 gives (λ e p q r. ((x, node_is b t 20 e, (good x p).0), (good x p).1))
          then done

      conditions : Cases (Row (λ m. Goodᶜ t (condition_of tree treeᶜ m))) 12 4
      unfolding nodes layout table condition_of closed
      conditions =
          12 gives (λ e p q r. (node_is b t 12 e, λ ρ c. tt))
          then 13 gives (λ e p q r. ((x, node_is b t 13 e, (goodᶜ x p).0), (goodᶜ x p).1))
          then 14 gives (λ e p q r. (
            (x, y, node_is b t 14 e, (goodᶜ x p).0, (goodᶜ y q).0),
            λ ρ c.
                let d = and_yes (closedᶜ ρ (treeᶜ x)) (closedᶜ ρ (treeᶜ y)) c in ((goodᶜ x p).1 ρ d.0, (goodᶜ y q).1 ρ d.1),
          ))
          then 15 gives (λ e p q r. (
            (x, y, node_is b t 15 e, (good x p).0, (good y q).0),
            λ ρ c.
                let d = and_yes (closed ρ (tree x)) (closed ρ (tree y)) c in ((good x p).1 ρ d.0, (good y q).1 ρ d.1),
          ))
          then done

      longer : Child b t list y → tag_at b t ≡ 16 → (m : ℕ) → terms b ≤ t + m → suc (count (treeᵃ y)) ≡ list_length b m t
      longer q e zero h = absurd (omega arith)
      longer q e (suc m) h = ap suc ((goodᵃ y q).2 m (omega arith)) ∙ sym (list_step b m t e)

      lists : Cases (Row (λ m. Goodᵃ t (arguments_of tree treeᵃ m))) 16 2
      unfolding nodes layout table arguments_of closed
      lists =
          16 gives (λ e p q r. (
            (x, y, node_is b t 16 e, (good x p).0, (goodᵃ y q).0),
            (λ ρ c. let d = and_yes (closed ρ (tree x)) (closedᵃ ρ (treeᵃ y)) c in ((good x p).1 ρ d.0, (goodᵃ y q).1 ρ d.1)),
            longer q e,
          ))
          then 17 gives (λ e p q r. (node_is b t 17 e, (λ ρ c. tt), λ m h. sym (list_stop b m t (λ z. omega arith))))
          then done

      good_here : OfSort expression (tag_at b t) → Good t (expression_at (node_at b) (suc n) t)
      unfolding expression_at
      good_here (inl s) = at_tag (λ m. Good t (expression_of tree treeᶜ treeᵃ m)) (a.each_term t inside)
          (pick expressions (tag_at b t) (omega arith) (omega arith))
      good_here (inr s) = at_tag (λ m. Good t (expression_of tree treeᶜ treeᵃ m)) (a.each_term t inside)
          (pick signals (tag_at b t) s.0 (let h = s.1 in omega arith))

      goodᶜ_here : OfSort condition (tag_at b t) → Goodᶜ t (condition_at (node_at b) (suc n) t)
      unfolding condition_at
      goodᶜ_here s = at_tag (λ m. Goodᶜ t (condition_of tree treeᶜ m)) (a.each_term t inside) (pick conditions (tag_at b t) (omega arith) (omega arith))

      goodᵃ_here : OfSort list (tag_at b t) → Goodᵃ t (arguments_at (node_at b) (suc n) t)
      unfolding arguments_at
      goodᵃ_here s = at_tag (λ m. Goodᵃ t (arguments_of tree treeᵃ m)) (a.each_term t inside) (pick lists (tag_at b t) (omega arith) (omega arith))

  all_good : Readable b → (n : ℕ) → AllGood n
  all_good a zero = record {
    expression_good = λ t h q s. absurd (omega arith);
    condition_good = λ t h q s. absurd (omega arith);
    list_good =
        λ t h q s. absurd (omega arith);
  }
  all_good a (suc n) =
      let ih = all_good a n in
      record { expression_good = λ t. good_here t a n ih; condition_good = λ t. goodᶜ_here t a n ih; list_good = λ t. goodᵃ_here t a n ih }

  root_good : Readable b → (p : ℕ) → p < procedures b → Good (root b p) (tree_at b (root b p))
  unfolding tree_at
  root_good a p h =
      let r = a.each_root p h in
      (all_good a (terms b - root b p)).expression_good (root b p) r.0 (enough (terms b) (root b p)) r.1
    where
      enough : (n t : ℕ) → n ≤ t + (n - t)
      enough n t = omega arith

-- ---- the plan

-- where checks 1 to 6 find nothing, the tree of a root is what its term stands for
pub stands : (b : List ℕ) → first_refusal (take 6 (checks b)) ≡ none → (p : ℕ) → p < procedures b → Stands (node_at b) (root b p) (tree_at b (root b p))
stands b h p q = (root_good b (readable b (six_right b h)) p q).0

-- what refusal 7 says of its procedure: the tree that the root term stands for uses a slot that no parameter or enclosing let binds
pub refused_tree : (b : List ℕ) (p : ℕ) → refusal b ≡ some (record { number = 7; place = p })
    → (p < procedures b) × Stands (node_at b) (root b p) (tree_at b (root b p)) × (closed (λ x. ltb x (parameters b p)) (tree_at b (root b p)) ≡ false)
unfolding uses_unbound_slot
refused_tree b p h = let s = seventh b p h in (s.1, stands b s.0 p s.1, not-true _ s.2)

-- and so it is in a plan that is not refused
pub accepted_stands : (b : List ℕ) → refusal b ≡ none → (p : ℕ) → p < procedures b → Stands (node_at b) (root b p) (tree_at b (root b p))
accepted_stands b h p q = (root_good b (its_trees b (accepted b h)) p q).0

body_well_formed : (b : List ℕ) → Accepted b → (m : ℕ) → m < procedures b
    → WellFormed (program_of b) 1 (λ x. ltb x (procedure_at b m).parameters) (procedure_at b m).body
unfolding procedure_at
body_well_formed b a m q = (root_good b (its_trees b a) m q).1 (λ x. ltb x (parameters b m)) (subst T (sym (a.each_procedure m q).all_bound) tt)

-- the program of a plan that is not refused is well-formed
pub well_formed : (b : List ℕ) → refusal b ≡ none → WellFormedProgram (program_of b)
well_formed b h =
    let a = accepted b h in
    record {
      main = callable b 0 0 a.some_procedure a.main_bare;
      bodies = λ m d e.
          let k = procedures_inside b m d e in
          subst (λ (d : Procedure). WellFormed (program_of b) 1 (λ x. ltb x d.parameters) d.body) (sym k.1) (body_well_formed b a m k.0);
    }
