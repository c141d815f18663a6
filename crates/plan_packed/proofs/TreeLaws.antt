-- What a table of nodes, in which children come after parents, gives for trees: how far a tree is looked into does not matter, so each is its node over
-- the trees of its children. Assumes nothing.
use Prim.Native.Nat.{ℕ, zero, suc, ◌+◌, ◌-◌, ◌≤◌, ◌<◌}
use native.Mathlib.Omega.{arith}
use mathlib.Core.Path.{◌≡◌, refl, ◌∙◌}
use Rattle.plan_packed.specs.Syntax.{Expression, Condition, Arguments}
use Rattle.plan_packed.specs.Inner.Steps.{NamesLater, Descending}
use Rattle.plan_packed.specs.Trees.{null, variable, new, read, write, let_in, if, while, call, fork, join, synch, signal, truth, not, and, equal, list}
use Rattle.plan_packed.specs.Trees.{list_end}
use Rattle.plan_packed.specs.Trees.{Node, expression, condition, arguments, unknown}
use Rattle.plan_packed.specs.Trees.{expression_of, condition_of, arguments_of, expression_at, condition_at, arguments_at}

-- ---- the trees

module _ (h : ℕ → Node) (N : ℕ) where
  unfoldable pub tree : ℕ → Expression
  unfolding expression_at
  tree t = expression_at h (N - t) t

  unfoldable pub treeᶜ : ℕ → Condition
  unfolding expression_at
  treeᶜ t = condition_at h (N - t) t

  unfoldable pub treeᵃ : ℕ → Arguments
  unfolding expression_at
  treeᵃ t = arguments_at h (N - t) t

-- ---- what a node makes of its children's trees

module _ (t : ℕ) (e e' : ℕ → Expression) (c c' : ℕ → Condition) (l l' : ℕ → Arguments)
    (he : (i : ℕ) → t < i → e i ≡ e' i) (hc : (i : ℕ) → t < i → c i ≡ c' i) (hl : (i : ℕ) → t < i → l i ≡ l' i) where
  pub expression_cong : (x : Node) → NamesLater t x → expression_of e c l x ≡ expression_of e' c' l' x
  unfolding expression_of
  expression_cong (expression null) b = refl
  expression_cong (expression (variable x)) b = refl
  expression_cong (expression (new fs)) b = refl
  expression_cong (expression (read i f)) b = rw (he i b)
  expression_cong (expression (write i f j)) b = rw (he i b.0, he j b.1)
  expression_cong (expression (let_in x i j)) b = rw (he i b.0, he j b.1)
  expression_cong (expression (if i j k)) b = rw (hc i b.0, he j b.1, he k b.2)
  expression_cong (expression (while i j)) b = rw (hc i b.0, he j b.1)
  expression_cong (expression (call m i)) b = rw (hl i b)
  expression_cong (expression (fork i)) b = rw (he i b)
  expression_cong (expression (join i)) b = rw (he i b)
  expression_cong (expression (synch i j)) b = rw (he i b.0, he j b.1)
  expression_cong (expression (signal k i)) b = rw (he i b)
  expression_cong (condition x) b = refl
  expression_cong (arguments x) b = refl
  expression_cong unknown b = refl

  pub condition_cong : (x : Node) → NamesLater t x → condition_of e c x ≡ condition_of e' c' x
  unfolding condition_of
  condition_cong (expression x) b = refl
  condition_cong (condition truth) b = refl
  condition_cong (condition (not i)) b = rw (hc i b)
  condition_cong (condition (and i j)) b = rw (hc i b.0, hc j b.1)
  condition_cong (condition (equal i j)) b = rw (he i b.0, he j b.1)
  condition_cong (arguments x) b = refl
  condition_cong unknown b = refl

  pub arguments_cong : (x : Node) → NamesLater t x → arguments_of e l x ≡ arguments_of e' l' x
  unfolding arguments_of
  arguments_cong (expression x) b = refl
  arguments_cong (condition x) b = refl
  arguments_cong (arguments (list i j)) b = rw (he i b.0, hl j b.1)
  arguments_cong (arguments list_end) b = refl
  arguments_cong unknown b = refl

-- ---- how far a tree is looked into

module _ (h : ℕ → Node) (N : ℕ) (o : Descending h N) where
  mutual
    unfolding expression_at

    pub expression_fuel : (n m t : ℕ) → N ≤ t + n → N ≤ t + m → expression_at h n t ≡ expression_at h m t
    expression_fuel zero zero t p q = refl
    expression_fuel zero (suc m) t p q = rw (o.past t (omega arith))
    expression_fuel (suc n) zero t p q = rw (o.past t (omega arith))
    expression_fuel (suc n) (suc m) t p q =
        expression_cong t (λ i. expression_at h n i) (λ i. expression_at h m i) (λ i. condition_at h n i) (λ i. condition_at h m i) (λ i. arguments_at h n i)
        (λ i. arguments_at h m i)
        (λ i b. expression_fuel n m i (omega arith) (omega arith)) (λ i b. condition_fuel n m i (omega arith) (omega arith))
        (λ i b. arguments_fuel n m i (omega arith) (omega arith))
        (h t) (o.below t)

    condition_fuel : (n m t : ℕ) → N ≤ t + n → N ≤ t + m → condition_at h n t ≡ condition_at h m t
    condition_fuel zero zero t p q = refl
    condition_fuel zero (suc m) t p q = rw (o.past t (omega arith))
    condition_fuel (suc n) zero t p q = rw (o.past t (omega arith))
    condition_fuel (suc n) (suc m) t p q =
        condition_cong t (λ i. expression_at h n i) (λ i. expression_at h m i) (λ i. condition_at h n i) (λ i. condition_at h m i) (λ i. arguments_at h n i)
        (λ i. arguments_at h m i)
        (λ i b. expression_fuel n m i (omega arith) (omega arith)) (λ i b. condition_fuel n m i (omega arith) (omega arith))
        (λ i b. arguments_fuel n m i (omega arith) (omega arith))
        (h t) (o.below t)

    pub arguments_fuel : (n m t : ℕ) → N ≤ t + n → N ≤ t + m → arguments_at h n t ≡ arguments_at h m t
    arguments_fuel zero zero t p q = refl
    arguments_fuel zero (suc m) t p q = rw (o.past t (omega arith))
    arguments_fuel (suc n) zero t p q = rw (o.past t (omega arith))
    arguments_fuel (suc n) (suc m) t p q =
        arguments_cong t (λ i. expression_at h n i) (λ i. expression_at h m i) (λ i. condition_at h n i) (λ i. condition_at h m i) (λ i. arguments_at h n i)
        (λ i. arguments_at h m i)
        (λ i b. expression_fuel n m i (omega arith) (omega arith)) (λ i b. condition_fuel n m i (omega arith) (omega arith))
        (λ i b. arguments_fuel n m i (omega arith) (omega arith))
        (h t) (o.below t)

  pub tree_law : (t : ℕ) → tree h N t ≡ expression_of (tree h N) (treeᶜ h N) (treeᵃ h N) (h t)
  unfolding tree treeᶜ treeᵃ
  tree_law t =
      expression_fuel (N - t) (suc (N - t)) t (omega arith) (omega arith)
      ∙ expression_cong t (λ i. expression_at h (N - t) i) (tree h N) (λ i. condition_at h (N - t) i) (treeᶜ h N) (λ i. arguments_at h (N - t) i) (treeᵃ h N)
      (λ i b. expression_fuel (N - t) (N - i) i (omega arith) (omega arith)) (λ i b. condition_fuel (N - t) (N - i) i (omega arith) (omega arith))
      (λ i b. arguments_fuel (N - t) (N - i) i (omega arith) (omega arith))
      (h t) (o.below t)

  pub tree_lawᶜ : (t : ℕ) → treeᶜ h N t ≡ condition_of (tree h N) (treeᶜ h N) (h t)
  unfolding tree treeᶜ treeᵃ
  tree_lawᶜ t =
      condition_fuel (N - t) (suc (N - t)) t (omega arith) (omega arith)
      ∙ condition_cong t (λ i. expression_at h (N - t) i) (tree h N) (λ i. condition_at h (N - t) i) (treeᶜ h N) (λ i. arguments_at h (N - t) i) (treeᵃ h N)
      (λ i b. expression_fuel (N - t) (N - i) i (omega arith) (omega arith)) (λ i b. condition_fuel (N - t) (N - i) i (omega arith) (omega arith))
      (λ i b. arguments_fuel (N - t) (N - i) i (omega arith) (omega arith))
      (h t) (o.below t)

  pub tree_lawᵃ : (t : ℕ) → treeᵃ h N t ≡ arguments_of (tree h N) (treeᵃ h N) (h t)
  unfolding tree treeᶜ treeᵃ
  tree_lawᵃ t =
      arguments_fuel (N - t) (suc (N - t)) t (omega arith) (omega arith)
      ∙ arguments_cong t (λ i. expression_at h (N - t) i) (tree h N) (λ i. condition_at h (N - t) i) (treeᶜ h N) (λ i. arguments_at h (N - t) i) (treeᵃ h N)
      (λ i b. expression_fuel (N - t) (N - i) i (omega arith) (omega arith)) (λ i b. condition_fuel (N - t) (N - i) i (omega arith) (omega arith))
      (λ i b. arguments_fuel (N - t) (N - i) i (omega arith) (omega arith))
      (h t) (o.below t)
