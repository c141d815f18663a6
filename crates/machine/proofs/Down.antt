-- The way down of the machine finds what the definitions find, in every table of nodes in which children come after parents. Assumes nothing.
use Prim.Native.Nat.{ℕ, zero, suc, ◌+◌, ◌≤◌, ◌<◌}
use native.Mathlib.Omega.{arith}
use mathlib.Core.Path.{◌≡◌, refl, sym, ap, ◌∙◌}
use mathlib.Core.Bool.{Bool, true, false}
use mathlib.Core.List.{List}
use mathlib.Core.Option.{Option, some, none}
use Rattle.plan_packed.specs.Syntax.{Expression, Condition, Arguments, substitute, substituteᶜ, substituteᵃ}
use Rattle.plan_packed.specs.Trees.{null, variable, new, read, write, let_in, if, while, call, fork, join, synch, signal, truth, not, and, equal, list, list_end}
use Rattle.plan_packed.specs.Trees.{Node, expression, condition, arguments, unknown, expression_of, condition_of, arguments_of}
use Rattle.plan_packed.specs.Inner.Steps.{NamesLater, Descending}
use Rattle.plan_packed.proofs.TreeLaws.{tree, treeᶜ, treeᵃ, tree_law, tree_lawᶜ, tree_lawᵃ}
use Rattle.rules.specs.Context.{as_literal, as_bool, is_truth, false_when, Focus, focus, focusᶜ, focusᵃ, on_literal, on_bool, on_not}
use Rattle.machine.specs.Inner.Frames.{Slots, no_slots, put, Closure, closure, Frame, Found}
use Rattle.machine.specs.Inner.Refocusing.{given, value_of, is_true, bool_of, value_in, bool_in, found_not, down_by, down_byᶜ, down_byᵃ, down, downᶜ, downᵃ}
use Rattle.machine.proofs.Substitution.{every, first_slots, first_put}
use Rattle.machine.proofs.Meaning.{expression_in, condition_in, arguments_in, context, contextᶜ, mean}

module _ (h : ℕ → Node) (N : ℕ) (o : Descending h N) where
  -- ---- values

  value_law : (ρ : Slots) (x : Node) → as_literal (substitute (every ρ) (expression_of (tree h N) (treeᶜ h N) (treeᵃ h N) x)) ≡ value_of ρ x
  unfolding substitute expression_of value_of as_literal
  value_law ρ (expression null) = refl
  value_law ρ (expression (variable x)) = refl
  value_law ρ (expression (new fs)) = refl
  value_law ρ (expression (read i f)) = refl
  value_law ρ (expression (write i f j)) = refl
  value_law ρ (expression (let_in x i j)) = refl
  value_law ρ (expression (if i j k)) = refl
  value_law ρ (expression (while i j)) = refl
  value_law ρ (expression (call m i)) = refl
  value_law ρ (expression (fork i)) = refl
  value_law ρ (expression (join i)) = refl
  value_law ρ (expression (synch i j)) = refl
  value_law ρ (expression (signal k i)) = refl
  value_law ρ (condition x) = refl
  value_law ρ (arguments x) = refl
  value_law ρ unknown = refl

  -- a closure is the value that the machine sees
  pub value_in_lem : (x : Closure) → as_literal (expression_in h N x) ≡ value_in h x
  unfolding value_in
  value_in_lem x = ap (λ (e : Expression). as_literal (substitute (every x.slots) e)) (tree_law h N o x.at) ∙ value_law x.slots (h x.at)

  truth_law : (ρ : Slots) (x : Node) → is_truth (substituteᶜ (every ρ) (condition_of (tree h N) (treeᶜ h N) x)) ≡ is_true x
  unfolding substitute condition_of is_true is_truth
  truth_law ρ (expression x) = refl
  truth_law ρ (condition truth) = refl
  truth_law ρ (condition (not i)) = refl
  truth_law ρ (condition (and i j)) = refl
  truth_law ρ (condition (equal i j)) = refl
  truth_law ρ (arguments x) = refl
  truth_law ρ unknown = refl

  bool_law : (ρ : Slots) (x : Node) → as_bool (substituteᶜ (every ρ) (condition_of (tree h N) (treeᶜ h N) x)) ≡ bool_of h x
  unfolding substitute condition_of bool_of as_bool
  bool_law ρ (expression x) = refl
  bool_law ρ (condition truth) = refl
  bool_law ρ (condition (not i)) = ap false_when (ap (λ (c : Condition). is_truth (substituteᶜ (every ρ) c)) (tree_lawᶜ h N o i) ∙ truth_law ρ (h i))
  bool_law ρ (condition (and i j)) = refl
  bool_law ρ (condition (equal i j)) = refl
  bool_law ρ (arguments x) = refl
  bool_law ρ unknown = refl

  pub bool_in_lem : (x : Closure) → as_bool (condition_in h N x) ≡ bool_in h x
  unfolding bool_in
  bool_in_lem x = ap (λ (c : Condition). as_bool (substituteᶜ (every x.slots) c)) (tree_lawᶜ h N o x.at) ∙ bool_law x.slots (h x.at)

  pub by_literal : (a v : Option ℕ) (k : ℕ → Found) (k' : ℕ → Focus) (r : Found) (r' : Focus) → a ≡ v
      → ((o : ℕ) → mean h N (k o) ≡ k' o) → mean h N r ≡ r' → mean h N (given v k r) ≡ on_literal a k' r'
  by_literal a (some o) k k' r r' q hk hr = rw q (hk o)
  by_literal a none k k' r r' q hk hr = rw q hr

  pub by_bool : (a v : Option Bool) (k : Bool → Found) (k' : Bool → Focus) (r : Found) (r' : Focus) → a ≡ v
      → ((o : Bool) → mean h N (k o) ≡ k' o) → mean h N r ≡ r' → mean h N (given v k r) ≡ on_bool a k' r'
  by_bool a (some o) k k' r r' q hk hr = rw q (hk o)
  by_bool a none k k' r r' q hk hr = rw q hr

  by_not : (S : List Frame) (b : Bool) → mean h N (found_not h (λ F. F) S b) ≡ on_not (contextᶜ h N S) b
  by_not S true = refl
  by_not S false = refl

  -- one level
  module _ (ρ : Slots) (t : ℕ) (d c : List Frame → Closure → Found) (l : List Frame → ℕ → ℕ → Slots → Closure → Found)
      (hd : (S : List Frame) (x : Closure) → t < x.at → mean h N (d S x) ≡ focus (context h N S) (expression_in h N x))
      (hc : (S : List Frame) (x : Closure) → t < x.at → mean h N (c S x) ≡ focusᶜ (contextᶜ h N S) (condition_in h N x))
      (hl : (S : List Frame) (m n : ℕ) (σ : Slots) (x : Closure) → t < x.at
      → mean h N (l S m n σ x) ≡ focusᵃ (context h N S) m (first_slots n σ) (arguments_in h N x)) where
    level : (S : List Frame) (x : Node) → NamesLater t x
        → mean h N (down_by h (λ F. F) d c l ρ S x) ≡ focus (context h N S) (substitute (every ρ) (expression_of (tree h N) (treeᶜ h N) (treeᵃ h N) x))
    unfolding down_by substitute expression_of focus first_slots
    level S (expression null) b = refl
    level S (expression (variable x)) b = refl
    level S (expression (new fs)) b = refl
    level S (expression (read i f)) b = by_literal _ _ _ _ _ _ (value_in_lem (closure i ρ)) (λ o. refl) (hd _ (closure i ρ) b)
    level S (expression (write i f j)) b =
        by_literal _ _ _ _ _ _ (value_in_lem (closure i ρ)) (λ o. by_literal _ _ _ _ _ _ (value_in_lem (closure j ρ)) (λ v. refl) (hd _ (closure j ρ) b.1))
        (hd _ (closure i ρ) b.0)
    level S (expression (let_in x i j)) b = by_literal _ _ _ _ _ _ (value_in_lem (closure i ρ)) (λ o. refl) (hd _ (closure i ρ) b.0)
    level S (expression (if i j k)) b = by_bool _ _ _ _ _ _ (bool_in_lem (closure i ρ)) (λ o. refl) (hc _ (closure i ρ) b.0)
    level S (expression (while i j)) b = refl
    level S (expression (call m i)) b = hl S m 0 no_slots (closure i ρ) b
    level S (expression (fork i)) b = refl
    level S (expression (join i)) b = by_literal _ _ _ _ _ _ (value_in_lem (closure i ρ)) (λ o. refl) (hd _ (closure i ρ) b)
    level S (expression (signal j i)) b = by_literal _ _ _ _ _ _ (value_in_lem (closure i ρ)) (λ o. refl) (hd _ (closure i ρ) b)
    level S (expression (synch i j)) b = by_literal _ _ _ _ _ _ (value_in_lem (closure i ρ)) (λ o. refl) (hd _ (closure i ρ) b.0)
    level S (condition x) b = refl
    level S (arguments x) b = refl
    level S unknown b = refl

    levelᶜ : (S : List Frame) (x : Node) → NamesLater t x
        → mean h N (down_byᶜ h (λ F. F) d c l ρ S x) ≡ focusᶜ (contextᶜ h N S) (substituteᶜ (every ρ) (condition_of (tree h N) (treeᶜ h N) x))
    unfolding down_byᶜ substitute condition_of focus
    levelᶜ S (expression x) b = refl
    levelᶜ S (condition truth) b = refl
    levelᶜ S (condition (not i)) b = by_bool _ _ _ _ _ _ (bool_in_lem (closure i ρ)) (λ o. by_not S o) (hc _ (closure i ρ) b)
    levelᶜ S (condition (and i j)) b = by_bool _ _ _ _ _ _ (bool_in_lem (closure i ρ)) (λ o. refl) (hc _ (closure i ρ) b.0)
    levelᶜ S (condition (equal i j)) b =
        by_literal _ _ _ _ _ _ (value_in_lem (closure i ρ)) (λ o. by_literal _ _ _ _ _ _ (value_in_lem (closure j ρ)) (λ v. refl) (hd _ (closure j ρ) b.1))
        (hd _ (closure i ρ) b.0)
    levelᶜ S (arguments x) b = refl
    levelᶜ S unknown b = refl

    levelᵃ : (S : List Frame) (m n : ℕ) (σ : Slots) (x : Node) → NamesLater t x
        → mean h N (down_byᵃ h (λ F. F) d c l ρ S m n σ x) ≡ focusᵃ (context h N S) m (first_slots n σ)
        (substituteᵃ (every ρ) (arguments_of (tree h N) (treeᵃ h N) x))
    unfolding down_byᵃ substitute arguments_of focus
    levelᵃ S m n σ (expression x) b = refl
    levelᵃ S m n σ (condition x) b = refl
    levelᵃ S m n σ (arguments (list i j)) b =
        by_literal _ _ _ _ _ _ (value_in_lem (closure i ρ)) (λ v. hl S m (suc n) (put σ n v) (closure j ρ) b.1
        ∙ ap (λ (os : List ℕ). focusᵃ (context h N S) m os (substituteᵃ (every ρ) (treeᵃ h N j))) (first_put n v σ)) (hd _ (closure i ρ) b.0)
    levelᵃ S m n σ (arguments list_end) b = refl
    levelᵃ S m n σ unknown b = refl

  -- ---- the whole way

  mutual
    unfolding down substitute expression_of condition_of arguments_of focus

    pub down_focus : (k : ℕ) (S : List Frame) (x : Closure) → N ≤ x.at + k → mean h N (down h k S x) ≡ focus (context h N S) (expression_in h N x)
    down_focus zero S x q = rw (tree_law h N o x.at, o.past x.at (omega arith)) refl
    down_focus (suc k) S x q =
        level x.slots x.at (λ S y. down h k S y) (λ S y. downᶜ h k S y) (λ S m n σ y. downᵃ h k S m n σ y)
        (λ S y b. down_focus k S y (omega arith)) (λ S y b. down_focusᶜ k S y (omega arith)) (λ S m n σ y b. down_focusᵃ k S m n σ y (omega arith))
        S (h x.at) (o.below x.at)
        ∙ ap (λ (e : Expression). focus (context h N S) (substitute (every x.slots) e)) (sym (tree_law h N o x.at))

    pub down_focusᶜ : (k : ℕ) (S : List Frame) (x : Closure) → N ≤ x.at + k → mean h N (downᶜ h k S x) ≡ focusᶜ (contextᶜ h N S) (condition_in h N x)
    down_focusᶜ zero S x q = rw (tree_lawᶜ h N o x.at, o.past x.at (omega arith)) refl
    down_focusᶜ (suc k) S x q =
        levelᶜ x.slots x.at (λ S y. down h k S y) (λ S y. downᶜ h k S y) (λ S m n σ y. downᵃ h k S m n σ y)
        (λ S y b. down_focus k S y (omega arith)) (λ S y b. down_focusᶜ k S y (omega arith)) (λ S m n σ y b. down_focusᵃ k S m n σ y (omega arith))
        S (h x.at) (o.below x.at)
        ∙ ap (λ (e : Condition). focusᶜ (contextᶜ h N S) (substituteᶜ (every x.slots) e)) (sym (tree_lawᶜ h N o x.at))

    pub down_focusᵃ : (k : ℕ) (S : List Frame) (m n : ℕ) (σ : Slots) (x : Closure) → N ≤ x.at + k
        → mean h N (downᵃ h k S m n σ x) ≡ focusᵃ (context h N S) m (first_slots n σ) (arguments_in h N x)
    down_focusᵃ zero S m n σ x q = rw (tree_lawᵃ h N o x.at, o.past x.at (omega arith)) refl
    down_focusᵃ (suc k) S m n σ x q =
        levelᵃ x.slots x.at (λ S y. down h k S y) (λ S y. downᶜ h k S y) (λ S m n σ y. downᵃ h k S m n σ y)
        (λ S y b. down_focus k S y (omega arith)) (λ S y b. down_focusᶜ k S y (omega arith)) (λ S m n σ y b. down_focusᵃ k S m n σ y (omega arith))
        S m n σ (h x.at) (o.below x.at)
        ∙ ap (λ (e : Arguments). focusᵃ (context h N S) m (first_slots n σ) (substituteᵃ (every x.slots) e)) (sym (tree_lawᵃ h N o x.at))
