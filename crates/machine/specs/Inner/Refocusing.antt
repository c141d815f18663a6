-- The abstract machine; no reader of the entries' promises needs it. Refocusing: from a term, a value or a rule's result to the next redex that
-- moves. h gives the nodes of a plan of N terms. A superscript c or a marks the same thing for conditions or for a call's list. Assumes nothing.
use Rattle.std.specs.Prelude.{ℕ, zero, suc, Bool, false}
use Rattle.std.proofs.Math.Bool.{true}
use mathlib.Core.List.{List, [], ◌∷◌}
use Rattle.std.proofs.Math.Option.{Option, some, none}
use Rattle.plan_packed.specs.Trees.{null, variable, new, read, write, let_in, if, while, call, fork, join, synch, signal, truth, not, and, equal, list, list_end}
use Rattle.plan_packed.specs.Trees.{Node, expression, condition, arguments, unknown}
use Rattle.rules.specs.Context.{false_when}
use Rattle.machine.specs.Inner.Frames.{Slots, no_slots, put, Closure, closure, branches, first_of, second_of, Frame, Ready, Readyᶜ, Found, Result}

-- the first where the operand is a value, and else the second
abbrev pub given : {A R : Type 0} → Option A → (A → R) → R → R
given (some o) k r = k o
given none k r = r

-- ---- values that need no move

-- the value that the expression at a node is
unfoldable pub value_of : Slots → Node → Option ℕ
value_of ρ (expression null) = some 0
value_of ρ (expression (variable x)) = some (ρ x)
value_of ρ (expression (new fs)) = none
value_of ρ (expression (read i f)) = none
value_of ρ (expression (write i f j)) = none
value_of ρ (expression (let_in x i j)) = none
value_of ρ (expression (if i j k)) = none
value_of ρ (expression (while i j)) = none
value_of ρ (expression (call m i)) = none
value_of ρ (expression (fork i)) = none
value_of ρ (expression (join i)) = none
value_of ρ (expression (signal k i)) = none
value_of ρ (expression (synch i j)) = none
value_of ρ (condition x) = some 0
value_of ρ (arguments x) = some 0
value_of ρ unknown = some 0

-- the condition at a node is true
unfoldable pub is_true : Node → Bool
is_true (expression x) = true
is_true (condition truth) = true
is_true (condition (not i)) = false
is_true (condition (and i j)) = false
is_true (condition (equal i j)) = false
is_true (arguments x) = true
is_true unknown = true

module _ (h : ℕ → Node) where
  -- the value that the condition at a node is: true, or `not true`
  unfoldable pub bool_of : Node → Option Bool
  unfolding is_true false_when
  bool_of (expression x) = some true
  bool_of (condition truth) = some true
  bool_of (condition (not i)) = false_when (is_true (h i))
  bool_of (condition (and i j)) = none
  bool_of (condition (equal i j)) = none
  bool_of (arguments x) = some true
  bool_of unknown = some true

  unfoldable pub value_in : Closure → Option ℕ
  unfolding value_of
  value_in x = value_of x.slots (h x.at)

  unfoldable pub bool_in : Closure → Option Bool
  unfolding bool_of
  bool_in x = bool_of (h x.at)

  -- ---- one step: down into a node, or up into a frame; where an operand is a value, its frame is left out

  -- what a step comes to: it has found the redex that moves next, or it goes on at a child
  module _ {R : Type 0} (found : Found → R) where
    -- `not true` is a value, and is never looked into: the answer there is of no use
    abbrev pub found_not : List Frame → Bool → R
    found_not S true = found (Found.value 0)
    found_not S false = found (Found.hereᶜ S Readyᶜ.not_false)

    module _ (d c : List Frame → Closure → R) (l : List Frame → ℕ → ℕ → Slots → Closure → R) where
      -- the second operand of a write and of an equality
      abbrev pub write_by : List Frame → ℕ → ℕ → Closure → R
      write_by S o f x = given (value_in x) (λ v. found (Found.here S (Ready.write o f v))) (d (Frame.write₂ o f ∷ S) x)

      abbrev pub equal_by : List Frame → ℕ → Closure → R
      equal_by S o x = given (value_in x) (λ v. found (Found.hereᶜ S (Readyᶜ.equal o v))) (d (Frame.equal₂ o ∷ S) x)

      -- down from the expression at a node, which is no value
      unfoldable pub down_by : Slots → List Frame → Node → R
      unfolding value_in bool_in no_slots
      down_by ρ S (expression null) = found (Found.value 0)
      down_by ρ S (expression (variable x)) = found (Found.value (ρ x))
      down_by ρ S (expression (new fs)) = found (Found.here S (Ready.new fs))
      down_by ρ S (expression (read i f)) = given (value_in (closure i ρ)) (λ o. found (Found.here S (Ready.read o f))) (d (Frame.read f ∷ S) (closure i ρ))
      down_by ρ S (expression (write i f j)) =
          given (value_in (closure i ρ)) (λ o. write_by S o f (closure j ρ)) (d (Frame.write₁ f (closure j ρ) ∷ S) (closure i ρ))
      down_by ρ S (expression (let_in x i j)) =
          given (value_in (closure i ρ)) (λ o. found (Found.here S (Ready.let_in x o (closure j ρ)))) (d (Frame.let_in x (closure j ρ) ∷ S) (closure i ρ))
      down_by ρ S (expression (if i j k)) =
          given (bool_in (closure i ρ)) (λ b. found (Found.here S (Ready.if b (branches j k ρ)))) (c (Frame.if (branches j k ρ) ∷ S) (closure i ρ))
      down_by ρ S (expression (while i j)) = found (Found.here S (Ready.while (branches i j ρ)))
      down_by ρ S (expression (call m i)) = l S m 0 no_slots (closure i ρ)
      down_by ρ S (expression (fork i)) = found (Found.here S (Ready.fork (closure i ρ)))
      down_by ρ S (expression (join i)) = given (value_in (closure i ρ)) (λ o. found (Found.here S (Ready.join o))) (d (Frame.join ∷ S) (closure i ρ))
      down_by ρ S (expression (signal k i)) = given (value_in (closure i ρ)) (λ o. found (Found.here S (Ready.signal k o))) (d (Frame.signal k ∷ S) (closure i ρ))
      down_by ρ S (expression (synch i j)) =
          given (value_in (closure i ρ)) (λ o. found (Found.here S (Ready.synch o (closure j ρ)))) (d (Frame.synch (closure j ρ) ∷ S) (closure i ρ))
      down_by ρ S (condition x) = found (Found.value 0)
      down_by ρ S (arguments x) = found (Found.value 0)
      down_by ρ S unknown = found (Found.value 0)

      unfoldable pub down_byᶜ : Slots → List Frame → Node → R
      unfolding value_in bool_in
      down_byᶜ ρ S (expression x) = found (Found.value 0)
      down_byᶜ ρ S (condition truth) = found (Found.value 0)
      down_byᶜ ρ S (condition (not i)) = given (bool_in (closure i ρ)) (λ b. found_not S b) (c (Frame.not ∷ S) (closure i ρ))
      down_byᶜ ρ S (condition (and i j)) =
          given (bool_in (closure i ρ)) (λ b. found (Found.hereᶜ S (Readyᶜ.and b (closure j ρ)))) (c (Frame.and (closure j ρ) ∷ S) (closure i ρ))
      down_byᶜ ρ S (condition (equal i j)) = given (value_in (closure i ρ)) (λ o. equal_by S o (closure j ρ)) (d (Frame.equal₁ (closure j ρ) ∷ S) (closure i ρ))
      down_byᶜ ρ S (arguments x) = found (Found.value 0)
      down_byᶜ ρ S unknown = found (Found.value 0)

      -- the list of a call of m, whose earlier n values are in slots 0 upward of σ
      unfoldable pub down_byᵃ : Slots → List Frame → ℕ → ℕ → Slots → Node → R
      unfolding value_in put
      down_byᵃ ρ S m n σ (expression x) = found (Found.here S (Ready.call m n σ))
      down_byᵃ ρ S m n σ (condition x) = found (Found.here S (Ready.call m n σ))
      down_byᵃ ρ S m n σ (arguments (list i j)) =
          given (value_in (closure i ρ)) (λ o. l S m (suc n) (put σ n o) (closure j ρ)) (d (Frame.call m n σ (closure j ρ) ∷ S) (closure i ρ))
      down_byᵃ ρ S m n σ (arguments list_end) = found (Found.here S (Ready.call m n σ))
      down_byᵃ ρ S m n σ unknown = found (Found.here S (Ready.call m n σ))

      -- a value into the innermost frame
      unfoldable pub up_by : List Frame → ℕ → R
      unfolding value_in put
      up_by [] v = found (Found.value v)
      up_by (Frame.read f ∷ S) v = found (Found.here S (Ready.read v f))
      up_by (Frame.write₁ f x ∷ S) v = write_by S v f x
      up_by (Frame.write₂ o f ∷ S) v = found (Found.here S (Ready.write o f v))
      up_by (Frame.call m n σ x ∷ S) v = l S m (suc n) (put σ n v) x
      up_by (Frame.let_in x y ∷ S) v = found (Found.here S (Ready.let_in x v y))
      up_by (Frame.synch x ∷ S) v = found (Found.here S (Ready.synch v x))
      up_by (Frame.hold o ∷ S) v = found (Found.here S (Ready.hold o v))
      up_by (Frame.join ∷ S) v = found (Found.here S (Ready.join v))
      up_by (Frame.signal k ∷ S) v = found (Found.here S (Ready.signal k v))
      up_by (Frame.equal₁ x ∷ S) v = equal_by S v x
      up_by (Frame.equal₂ o ∷ S) v = found (Found.hereᶜ S (Readyᶜ.equal o v))
      up_by (Frame.if x ∷ S) v = found (Found.value v)
      up_by (Frame.and x ∷ S) v = found (Found.value v)
      up_by (Frame.not ∷ S) v = found (Found.value v)
      up_by (Frame.while_test x ∷ S) v = found (Found.value v)
      up_by (Frame.while_body x ∷ S) v = found (Found.here S (Ready.while_body v x))

  -- ---- the whole way down, over at most k terms

  unfoldable mutual
    unfolding down_by down_byᶜ down_byᵃ

    pub down : ℕ → List Frame → Closure → Found
    down zero S x = Found.value 0
    down (suc k) S x = down_by (λ F. F) (λ S y. down k S y) (λ S y. downᶜ k S y) (λ S m n σ y. downᵃ k S m n σ y) x.slots S (h x.at)

    pub downᶜ : ℕ → List Frame → Closure → Found
    downᶜ zero S x = Found.value 0
    downᶜ (suc k) S x = down_byᶜ (λ F. F) (λ S y. down k S y) (λ S y. downᶜ k S y) (λ S m n σ y. downᵃ k S m n σ y) x.slots S (h x.at)

    pub downᵃ : ℕ → List Frame → ℕ → ℕ → Slots → Closure → Found
    downᵃ zero S m n σ x = Found.here S (Ready.call m n σ)
    downᵃ (suc k) S m n σ x = down_byᵃ (λ F. F) (λ S y. down k S y) (λ S y. downᶜ k S y) (λ S m n σ y. downᵃ k S m n σ y) x.slots S m n σ (h x.at)

  -- ---- and up first

  module _ (N : ℕ) where
    -- no condition's value comes to the other frames: what is found there is an if over null
    abbrev pub nowhere : Bool → Found
    nowhere b = Found.here [] (Ready.if b (branches N N (λ x. 0)))

    unfoldable pub up : List Frame → ℕ → Found
    unfolding up_by down
    up S v = up_by (λ F. F) (λ S y. down N S y) (λ S y. downᶜ N S y) (λ S m n σ y. downᵃ N S m n σ y) S v

    -- "`not true` is the value false"
    unfoldable pub upᶜ : List Frame → Bool → Found
    upᶜ [] b = nowhere b
    upᶜ (Frame.if x ∷ S) b = Found.here S (Ready.if b x)
    upᶜ (Frame.and x ∷ S) b = Found.hereᶜ S (Readyᶜ.and b x)
    upᶜ (Frame.not ∷ S) true = upᶜ S false
    upᶜ (Frame.not ∷ S) false = Found.hereᶜ S Readyᶜ.not_false
    upᶜ (Frame.while_test x ∷ S) b = Found.here S (Ready.while_test b x)
    upᶜ (Frame.read f ∷ S) b = nowhere b
    upᶜ (Frame.write₁ f x ∷ S) b = nowhere b
    upᶜ (Frame.write₂ o f ∷ S) b = nowhere b
    upᶜ (Frame.call m n σ x ∷ S) b = nowhere b
    upᶜ (Frame.let_in x y ∷ S) b = nowhere b
    upᶜ (Frame.synch x ∷ S) b = nowhere b
    upᶜ (Frame.hold o ∷ S) b = nowhere b
    upᶜ (Frame.join ∷ S) b = nowhere b
    upᶜ (Frame.signal k ∷ S) b = nowhere b
    upᶜ (Frame.equal₁ x ∷ S) b = nowhere b
    upᶜ (Frame.equal₂ o ∷ S) b = nowhere b
    upᶜ (Frame.while_body x ∷ S) b = nowhere b

    -- a closure in the hole of the frames
    unfoldable pub enter : List Frame → Closure → Found
    unfolding up down value_in
    enter S x = given (value_in x) (λ v. up S v) (down N S x)

    unfoldable pub enterᶜ : List Frame → Closure → Found
    unfolding upᶜ down bool_in
    enterᶜ S x = given (bool_in x) (λ b. upᶜ S b) (downᶜ N S x)

    -- a rule's result in the hole of the frames
    unfoldable pub go : List Frame → Result → Found
    unfolding up enter enterᶜ
    go S (Result.value v) = up S v
    go S (Result.run x) = enter S x
    go S (Result.held o x) = enter (Frame.hold o ∷ S) x
    go S (Result.while_test x) = enterᶜ (Frame.while_test x ∷ S) (first_of x)
    go S (Result.while_body x) = enter (Frame.while_body x ∷ S) (second_of x)
    go S (Result.while_again x) = Found.here S (Ready.while x)
    go S (Result.waiting o) = Found.here S (Ready.waiting o)
