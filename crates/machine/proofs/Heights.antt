-- What is no value is found under all the frames that stand around it; so refocusing that goes on under more than 32 frames ends under more than 32.
-- Assumes nothing.
use Prim.Native.Nat.{ℕ, zero, suc, ◌+◌, ◌≤◌, ◌<◌}
use native.Mathlib.Omega.{arith}
use mathlib.Core.Path.{◌≡◌, refl}
use mathlib.Core.Bool.{Bool, true, false}
use mathlib.Core.List.{List, [], ◌∷◌}
use mathlib.Core.Option.{Option, some, none, some-ne-none}
use lib.ListN.{length}
use Rattle.plan_packed.specs.Trees.{null, variable, new, read, write, let_in, if, while, call, fork, join, synch, signal, truth, not, and, equal, list, list_end}
use Rattle.plan_packed.specs.Trees.{Node, expression, condition, arguments, unknown}
use Rattle.plan_packed.specs.Inner.Steps.{NamesLater, Descending}
use Rattle.rules.specs.Context.{false_when}
use Rattle.machine.specs.Inner.Frames.{Slots, no_slots, put, Closure, closure, Frame, Found, height}
use Rattle.machine.specs.Inner.Refocusing.{given, value_of, is_true, bool_of, value_in, bool_in, found_not, down_by, down_byᶜ, down_byᵃ, down, downᶜ, downᵃ}
use Rattle.machine.specs.Inner.Turns.{Going, Turn, ends, goes, go_down, go_downᶜ, go_list, refocus, truth_turn, turn}
use Rattle.machine.proofs.Levels.{level, levelᶜ, levelᵃ, up_level}

-- a condition that is true is true at its node
true_node : (h : ℕ → Node) (x : Node) → bool_of h x ≡ some true → is_true x ≡ true
unfolding bool_of is_true false_when
true_node h (expression x) e = refl
true_node h (condition truth) e = refl
true_node h (condition (not i)) e = at (is_true (h i)) e
  where
    at : (b : Bool) → false_when b ≡ some true → false ≡ true
    at true e = cc
    at false e = cc
true_node h (condition (and i j)) e = cc
true_node h (condition (equal i j)) e = cc
true_node h (arguments x) e = refl
true_node h unknown e = refl

given_height : {A : Type 0} (n : ℕ) (v : Option A) (k : A → Found) (r : Found) → ((a : A) → v ≡ some a → n ≤ height (k a)) → (v ≡ none → n ≤ height r)
    → n ≤ height (given v k r)
given_height n (some a) k r hk hr = hk a refl
given_height n none k r hk hr = hr refl

module _ (h : ℕ → Node) where
  module _ (S : List Frame) (t : ℕ) (d c : List Frame → Closure → Found) (l : List Frame → ℕ → ℕ → Slots → Closure → Found)
      (hd : (F : Frame) (x : Closure) → t < x.at → value_in h x ≡ none → length S ≤ height (d (F ∷ S) x))
      (hc : (F : Frame) (x : Closure) → t < x.at → bool_in h x ≡ none → length S ≤ height (c (F ∷ S) x))
      (hl : (m n : ℕ) (σ : Slots) (x : Closure) → t < x.at → length S ≤ height (l S m n σ x)) where
    at_least : (ρ : Slots) (x : Node) → NamesLater t x → value_of ρ x ≡ none → length S ≤ height (down_by h (λ F. F) d c l ρ S x)
    unfolding down_by value_of height
    at_least ρ (expression null) b e = absurd (some-ne-none 0 e)
    at_least ρ (expression (variable x)) b e = absurd (some-ne-none (ρ x) e)
    at_least ρ (expression (new fs)) b e = omega arith
    at_least ρ (expression (read i f)) b e = given_height (length S) (value_in h (closure i ρ)) _ _ (λ a q. omega arith) (hd _ (closure i ρ) b)
    at_least ρ (expression (write i f j)) b e =
        given_height (length S) (value_in h (closure i ρ)) _ _
        (λ a q. given_height (length S) (value_in h (closure j ρ)) _ _ (λ v r. omega arith) (hd _ (closure j ρ) b.1)) (hd _ (closure i ρ) b.0)
    at_least ρ (expression (let_in x i j)) b e = given_height (length S) (value_in h (closure i ρ)) _ _ (λ a q. omega arith) (hd _ (closure i ρ) b.0)
    at_least ρ (expression (if i j k)) b e = given_height (length S) (bool_in h (closure i ρ)) _ _ (λ a q. omega arith) (hc _ (closure i ρ) b.0)
    at_least ρ (expression (while i j)) b e = omega arith
    at_least ρ (expression (call m i)) b e = hl m 0 no_slots (closure i ρ) b
    at_least ρ (expression (fork i)) b e = omega arith
    at_least ρ (expression (join i)) b e = given_height (length S) (value_in h (closure i ρ)) _ _ (λ a q. omega arith) (hd _ (closure i ρ) b)
    at_least ρ (expression (signal j i)) b e = given_height (length S) (value_in h (closure i ρ)) _ _ (λ a q. omega arith) (hd _ (closure i ρ) b)
    at_least ρ (expression (synch i j)) b e = given_height (length S) (value_in h (closure i ρ)) _ _ (λ a q. omega arith) (hd _ (closure i ρ) b.0)
    at_least ρ (condition x) b e = absurd (some-ne-none 0 e)
    at_least ρ (arguments x) b e = absurd (some-ne-none 0 e)
    at_least ρ unknown b e = absurd (some-ne-none 0 e)

    not_least : (i : ℕ) (b : Bool) → bool_of h (h i) ≡ some b → false_when (is_true (h i)) ≡ none → length S ≤ height (found_not h (λ F. F) S b)
    unfolding height false_when
    not_least i true e q = absurd (some-ne-none false (rw (true_node h (h i) e) at q))
    not_least i false e q = omega arith

    at_leastᶜ : (ρ : Slots) (x : Node) → NamesLater t x → bool_of h x ≡ none → length S ≤ height (down_byᶜ h (λ F. F) d c l ρ S x)
    unfolding down_byᶜ bool_of bool_in height
    at_leastᶜ ρ (expression x) b e = absurd (some-ne-none true e)
    at_leastᶜ ρ (condition truth) b e = absurd (some-ne-none true e)
    at_leastᶜ ρ (condition (not i)) b e = given_height (length S) (bool_in h (closure i ρ)) _ _ (λ a q. not_least i a q e) (hc _ (closure i ρ) b)
    at_leastᶜ ρ (condition (and i j)) b e = given_height (length S) (bool_in h (closure i ρ)) _ _ (λ a q. omega arith) (hc _ (closure i ρ) b.0)
    at_leastᶜ ρ (condition (equal i j)) b e =
        given_height (length S) (value_in h (closure i ρ)) _ _
        (λ a q. given_height (length S) (value_in h (closure j ρ)) _ _ (λ v r. omega arith) (hd _ (closure j ρ) b.1)) (hd _ (closure i ρ) b.0)
    at_leastᶜ ρ (arguments x) b e = absurd (some-ne-none true e)
    at_leastᶜ ρ unknown b e = absurd (some-ne-none true e)

    at_leastᵃ : (ρ : Slots) (m n : ℕ) (σ : Slots) (x : Node) → NamesLater t x → length S ≤ height (down_byᵃ h (λ F. F) d c l ρ S m n σ x)
    unfolding down_byᵃ height
    at_leastᵃ ρ m n σ (expression x) b = omega arith
    at_leastᵃ ρ m n σ (condition x) b = omega arith
    at_leastᵃ ρ m n σ (arguments (list i j)) b =
        given_height (length S) (value_in h (closure i ρ)) _ _ (λ a q. hl m (suc n) (put σ n a) (closure j ρ) b.1) (hd _ (closure i ρ) b.0)
    at_leastᵃ ρ m n σ (arguments list_end) b = omega arith
    at_leastᵃ ρ m n σ unknown b = omega arith

  module _ (N : ℕ) (o : Descending h N) where
    -- past the end there are only values
    past_value : (x : Closure) → N ≤ x.at → value_in h x ≡ none → ⊥
    unfolding value_in value_of
    past_value x q e = some-ne-none 0 (rw (o.past x.at q) at e)

    past_bool : (x : Closure) → N ≤ x.at → bool_in h x ≡ none → ⊥
    unfolding bool_in bool_of
    past_bool x q e = some-ne-none true (rw (o.past x.at q) at e)

    value_none : (x : Closure) → value_in h x ≡ none → value_of x.slots (h x.at) ≡ none
    unfolding value_in
    value_none x e = e

    bool_none : (x : Closure) → bool_in h x ≡ none → bool_of h (h x.at) ≡ none
    unfolding bool_in
    bool_none x e = e

    mutual
      unfolding down height

      down_height : (k : ℕ) (S : List Frame) (x : Closure) → N ≤ x.at + k → value_in h x ≡ none → length S ≤ height (down h k S x)
      down_height zero S x q e = absurd (past_value x (omega arith) e)
      down_height (suc k) S x q e =
          at_least S x.at (λ S y. down h k S y) (λ S y. downᶜ h k S y) (λ S m n σ y. downᵃ h k S m n σ y)
          (λ F y b v. omega (arith, down_height k (F ∷ S) y (omega arith) v)) (λ F y b v. omega (arith, down_heightᶜ k (F ∷ S) y (omega arith) v))
          (λ m n σ y b. down_heightᵃ k S m n σ y (omega arith)) x.slots (h x.at) (o.below x.at) (value_none x e)

      down_heightᶜ : (k : ℕ) (S : List Frame) (x : Closure) → N ≤ x.at + k → bool_in h x ≡ none → length S ≤ height (downᶜ h k S x)
      down_heightᶜ zero S x q e = absurd (past_bool x (omega arith) e)
      down_heightᶜ (suc k) S x q e =
          at_leastᶜ S x.at (λ S y. down h k S y) (λ S y. downᶜ h k S y) (λ S m n σ y. downᵃ h k S m n σ y)
          (λ F y b v. omega (arith, down_height k (F ∷ S) y (omega arith) v)) (λ F y b v. omega (arith, down_heightᶜ k (F ∷ S) y (omega arith) v))
          (λ m n σ y b. down_heightᵃ k S m n σ y (omega arith)) x.slots (h x.at) (o.below x.at) (bool_none x e)

      down_heightᵃ : (k : ℕ) (S : List Frame) (m n : ℕ) (σ : Slots) (x : Closure) → N ≤ x.at + k → length S ≤ height (downᵃ h k S m n σ x)
      down_heightᵃ zero S m n σ x q = omega arith
      down_heightᵃ (suc k) S m n σ x q =
          at_leastᵃ S x.at (λ S y. down h k S y) (λ S y. downᶜ h k S y) (λ S m n σ y. downᵃ h k S m n σ y)
          (λ F y b v. omega (arith, down_height k (F ∷ S) y (omega arith) v)) (λ F y b v. omega (arith, down_heightᶜ k (F ∷ S) y (omega arith) v))
          (λ m n σ y b. down_heightᵃ k S m n σ y (omega arith)) x.slots m n σ (h x.at) (o.below x.at)

    -- ---- turns

    -- refocusing that goes on down from here ends under these frames
    abbrev pub Under : Turn → Type 0
    Under (ends F) = Unit {0}
    Under (goes S (Going.value v)) = Unit {0}
    Under (goes S (Going.truth b)) = Unit {0}
    Under (goes S (Going.enter x)) = Unit {0}
    Under (goes S (Going.enterᶜ x)) = Unit {0}
    Under (goes S (Going.down x)) = length S ≤ height (refocus h N S (Going.down x))
    Under (goes S (Going.downᶜ x)) = length S ≤ height (refocus h N S (Going.downᶜ x))
    Under (goes S (Going.list m n σ x)) = length S ≤ height (refocus h N S (Going.list m n σ x))

    under_down : (S : List Frame) (x : Closure) → value_in h x ≡ none → Under (goes S (Going.down x))
    unfolding refocus
    under_down S x e = down_height N S x (omega arith) e

    under_downᶜ : (S : List Frame) (x : Closure) → bool_in h x ≡ none → Under (goes S (Going.downᶜ x))
    unfolding refocus
    under_downᶜ S x e = down_heightᶜ N S x (omega arith) e

    under_list : (S : List Frame) (m n : ℕ) (σ : Slots) (x : Closure) → Under (goes S (Going.list m n σ x))
    unfolding refocus
    under_list S m n σ x = down_heightᵃ N S m n σ x (omega arith)

    truth_under : (S : List Frame) (b : Bool) → Under (truth_turn h N S b)
    unfolding truth_turn
    truth_under [] b = tt
    truth_under (Frame.if x ∷ S) b = tt
    truth_under (Frame.and x ∷ S) b = tt
    truth_under (Frame.not ∷ S) true = tt
    truth_under (Frame.not ∷ S) false = tt
    truth_under (Frame.while_test x ∷ S) b = tt
    truth_under (Frame.read f ∷ S) b = tt
    truth_under (Frame.write₁ f x ∷ S) b = tt
    truth_under (Frame.write₂ a f ∷ S) b = tt
    truth_under (Frame.call m n σ x ∷ S) b = tt
    truth_under (Frame.let_in x y ∷ S) b = tt
    truth_under (Frame.synch x ∷ S) b = tt
    truth_under (Frame.hold a ∷ S) b = tt
    truth_under (Frame.join ∷ S) b = tt
    truth_under (Frame.signal j ∷ S) b = tt
    truth_under (Frame.equal₁ x ∷ S) b = tt
    truth_under (Frame.equal₂ a ∷ S) b = tt
    truth_under (Frame.while_body x ∷ S) b = tt

    enter_under : (S : List Frame) (x : Closure) (v : Option ℕ) → value_in h x ≡ v → Under (given v (λ v. goes S (Going.value v)) (goes S (Going.down x)))
    enter_under S x (some v) e = tt
    enter_under S x none e = under_down S x e

    enter_underᶜ : (S : List Frame) (x : Closure) (v : Option Bool) → bool_in h x ≡ v → Under (given v (λ b. goes S (Going.truth b)) (goes S (Going.downᶜ x)))
    enter_underᶜ S x (some v) e = tt
    enter_underᶜ S x none e = under_downᶜ S x e

    pub turn_under : (S : List Frame) (g : Going) → Under (turn h N S g)
    unfolding turn
    turn_under S (Going.value v) =
        up_level h (λ (r s : Turn). Under r) ends ends (λ F. tt) go_down go_downᶜ go_list go_down go_downᶜ go_list under_down under_list S v
    turn_under S (Going.truth b) = truth_under S b
    turn_under S (Going.enter x) = enter_under S x (value_in h x) refl
    turn_under S (Going.enterᶜ x) = enter_underᶜ S x (bool_in h x) refl
    turn_under S (Going.down x) =
        level h (λ (r s : Turn). Under r) ends ends (λ F. tt) go_down go_downᶜ go_list go_down go_downᶜ go_list S x.at
        (λ F y b e. under_down (F ∷ S) y e) (λ F y b e. under_downᶜ (F ∷ S) y e) (λ m n σ y b. under_list S m n σ y) x.slots (h x.at) (o.below x.at)
    turn_under S (Going.downᶜ x) =
        levelᶜ h (λ (r s : Turn). Under r) ends ends (λ F. tt) go_down go_downᶜ go_list go_down go_downᶜ go_list S x.at
        (λ F y b e. under_down (F ∷ S) y e) (λ F y b e. under_downᶜ (F ∷ S) y e) (λ m n σ y b. under_list S m n σ y) x.slots (h x.at) (o.below x.at)
    turn_under S (Going.list m n σ x) =
        levelᵃ h (λ (r s : Turn). Under r) ends ends (λ F. tt) go_down go_downᶜ go_list go_down go_downᶜ go_list S x.at
        (λ F y b e. under_down (F ∷ S) y e) (λ F y b e. under_downᶜ (F ∷ S) y e) (λ m n σ y b. under_list S m n σ y) x.slots m n σ (h x.at)
        (o.below x.at)
