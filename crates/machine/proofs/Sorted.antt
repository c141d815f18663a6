-- The machine's frames are well sorted, so their number is the depth of the context that they stand for. Assumes nothing.
use Prim.Native.Nat.{ℕ, zero, suc}
use mathlib.Core.Path.{◌≡◌, refl, ap}
use mathlib.Core.Bool.{Bool, true, false}
use mathlib.Core.List.{List, [], ◌∷◌}
use mathlib.Core.Option.{Option, some, none}
use lib.ListN.{length}
use Rattle.plan_packed.specs.Trees.{null, variable, new, read, write, let_in, if, while, call, fork, join, synch, signal, truth, not, and, equal, list, list_end}
use Rattle.plan_packed.specs.Trees.{Node, expression, condition, arguments, unknown}
use Rattle.rules.specs.Context.{depth, depthᶜ, depth_of}
use Rattle.machine.specs.Inner.Frames.{Slots, no_slots, put, Closure, closure, first_of, second_of, Frame, Found, height, Result}
use Rattle.machine.specs.Inner.Refocusing.{given, value_in, bool_in, found_not, down_by, down_byᶜ, down_byᵃ, down, downᶜ, downᵃ, up, upᶜ, enter, enterᶜ, go}
use Rattle.machine.proofs.Meaning.{context, contextᶜ, mean}

abbrev mutual
  -- the hole is an expression
  pub Well : List Frame → Type 0
  Well [] = Unit {0}
  Well (Frame.read f ∷ S) = Well S
  Well (Frame.write₁ f x ∷ S) = Well S
  Well (Frame.write₂ o f ∷ S) = Well S
  Well (Frame.call m n σ x ∷ S) = Well S
  Well (Frame.let_in x y ∷ S) = Well S
  Well (Frame.synch x ∷ S) = Well S
  Well (Frame.hold o ∷ S) = Well S
  Well (Frame.join ∷ S) = Well S
  Well (Frame.signal j ∷ S) = Well S
  Well (Frame.while_body x ∷ S) = Well S
  Well (Frame.equal₁ x ∷ S) = Wellᶜ S
  Well (Frame.equal₂ o ∷ S) = Wellᶜ S
  Well (Frame.if x ∷ S) = ⊥
  Well (Frame.while_test x ∷ S) = ⊥
  Well (Frame.and x ∷ S) = ⊥
  Well (Frame.not ∷ S) = ⊥

  -- the hole is a condition
  pub Wellᶜ : List Frame → Type 0
  Wellᶜ [] = ⊥
  Wellᶜ (Frame.read f ∷ S) = ⊥
  Wellᶜ (Frame.write₁ f x ∷ S) = ⊥
  Wellᶜ (Frame.write₂ o f ∷ S) = ⊥
  Wellᶜ (Frame.call m n σ x ∷ S) = ⊥
  Wellᶜ (Frame.let_in x y ∷ S) = ⊥
  Wellᶜ (Frame.synch x ∷ S) = ⊥
  Wellᶜ (Frame.hold o ∷ S) = ⊥
  Wellᶜ (Frame.join ∷ S) = ⊥
  Wellᶜ (Frame.signal j ∷ S) = ⊥
  Wellᶜ (Frame.while_body x ∷ S) = ⊥
  Wellᶜ (Frame.equal₁ x ∷ S) = ⊥
  Wellᶜ (Frame.equal₂ o ∷ S) = ⊥
  Wellᶜ (Frame.if x ∷ S) = Well S
  Wellᶜ (Frame.while_test x ∷ S) = Well S
  Wellᶜ (Frame.and x ∷ S) = Wellᶜ S
  Wellᶜ (Frame.not ∷ S) = Wellᶜ S

abbrev pub WellFound : Found → Type 0
WellFound (Found.value o) = Unit {0}
WellFound (Found.here S r) = Well S
WellFound (Found.hereᶜ S r) = Wellᶜ S

module _ (h : ℕ → Node) (N : ℕ) where
  mutual
    unfolding depth

    pub depth_context : (S : List Frame) → Well S → depth (context h N S) ≡ length S
    depth_context [] w = refl
    depth_context (Frame.read f ∷ S) w = ap suc (depth_context S w)
    depth_context (Frame.write₁ f x ∷ S) w = ap suc (depth_context S w)
    depth_context (Frame.write₂ o f ∷ S) w = ap suc (depth_context S w)
    depth_context (Frame.call m n σ x ∷ S) w = ap suc (depth_context S w)
    depth_context (Frame.let_in x y ∷ S) w = ap suc (depth_context S w)
    depth_context (Frame.synch x ∷ S) w = ap suc (depth_context S w)
    depth_context (Frame.hold o ∷ S) w = ap suc (depth_context S w)
    depth_context (Frame.join ∷ S) w = ap suc (depth_context S w)
    depth_context (Frame.signal j ∷ S) w = ap suc (depth_context S w)
    depth_context (Frame.while_body x ∷ S) w = ap suc (depth_context S w)
    depth_context (Frame.equal₁ x ∷ S) w = ap suc (depth_contextᶜ S w)
    depth_context (Frame.equal₂ o ∷ S) w = ap suc (depth_contextᶜ S w)
    depth_context (Frame.if x ∷ S) w = absurd w
    depth_context (Frame.while_test x ∷ S) w = absurd w
    depth_context (Frame.and x ∷ S) w = absurd w
    depth_context (Frame.not ∷ S) w = absurd w

    pub depth_contextᶜ : (S : List Frame) → Wellᶜ S → depthᶜ (contextᶜ h N S) ≡ length S
    depth_contextᶜ [] w = absurd w
    depth_contextᶜ (Frame.read f ∷ S) w = absurd w
    depth_contextᶜ (Frame.write₁ f x ∷ S) w = absurd w
    depth_contextᶜ (Frame.write₂ o f ∷ S) w = absurd w
    depth_contextᶜ (Frame.call m n σ x ∷ S) w = absurd w
    depth_contextᶜ (Frame.let_in x y ∷ S) w = absurd w
    depth_contextᶜ (Frame.synch x ∷ S) w = absurd w
    depth_contextᶜ (Frame.hold o ∷ S) w = absurd w
    depth_contextᶜ (Frame.join ∷ S) w = absurd w
    depth_contextᶜ (Frame.signal j ∷ S) w = absurd w
    depth_contextᶜ (Frame.while_body x ∷ S) w = absurd w
    depth_contextᶜ (Frame.equal₁ x ∷ S) w = absurd w
    depth_contextᶜ (Frame.equal₂ o ∷ S) w = absurd w
    depth_contextᶜ (Frame.if x ∷ S) w = ap suc (depth_context S w)
    depth_contextᶜ (Frame.while_test x ∷ S) w = ap suc (depth_context S w)
    depth_contextᶜ (Frame.and x ∷ S) w = ap suc (depth_contextᶜ S w)
    depth_contextᶜ (Frame.not ∷ S) w = ap suc (depth_contextᶜ S w)

-- the number of frames is the depth
pub depth_height : (h : ℕ → Node) (N : ℕ) (F : Found) → WellFound F → depth_of (mean h N F) ≡ height F
unfolding height depth_of
depth_height h N (Found.value o) w = refl
depth_height h N (Found.here S r) w = depth_context h N S w
depth_height h N (Found.hereᶜ S r) w = depth_contextᶜ h N S w

-- ---- the way down keeps stacks well sorted

given_well : {A : Type 0} (v : Option A) (k : A → Found) (r : Found) → ((o : A) → WellFound (k o)) → WellFound r → WellFound (given v k r)
given_well (some o) k r f w = f o
given_well none k r f w = w

not_well : (h : ℕ → Node) (S : List Frame) (b : Bool) → Wellᶜ S → WellFound (found_not h (λ F. F) S b)
not_well h S true w = tt
not_well h S false w = w

module _ (h : ℕ → Node) where
  module _ (d c : List Frame → Closure → Found) (l : List Frame → ℕ → ℕ → Slots → Closure → Found)
      (hd : (S : List Frame) (x : Closure) → Well S → WellFound (d S x)) (hc : (S : List Frame) (x : Closure) → Wellᶜ S → WellFound (c S x))
      (hl : (S : List Frame) (m n : ℕ) (σ : Slots) (x : Closure) → Well S → WellFound (l S m n σ x)) where
    level_well : (ρ : Slots) (S : List Frame) (x : Node) → Well S → WellFound (down_by h (λ F. F) d c l ρ S x)
    unfolding down_by
    level_well ρ S (expression null) w = tt
    level_well ρ S (expression (variable x)) w = tt
    level_well ρ S (expression (new fs)) w = w
    level_well ρ S (expression (read i f)) w = given_well (value_in h (closure i ρ)) _ _ (λ o. w) (hd _ (closure i ρ) w)
    level_well ρ S (expression (write i f j)) w =
        given_well (value_in h (closure i ρ)) _ _ (λ o. given_well (value_in h (closure j ρ)) _ _ (λ v. w) (hd _ (closure j ρ) w)) (hd _ (closure i ρ) w)
    level_well ρ S (expression (let_in x i j)) w = given_well (value_in h (closure i ρ)) _ _ (λ o. w) (hd _ (closure i ρ) w)
    level_well ρ S (expression (if i j k)) w = given_well (bool_in h (closure i ρ)) _ _ (λ o. w) (hc _ (closure i ρ) w)
    level_well ρ S (expression (while i j)) w = w
    level_well ρ S (expression (call m i)) w = hl S m 0 no_slots (closure i ρ) w
    level_well ρ S (expression (fork i)) w = w
    level_well ρ S (expression (join i)) w = given_well (value_in h (closure i ρ)) _ _ (λ o. w) (hd _ (closure i ρ) w)
    level_well ρ S (expression (signal j i)) w = given_well (value_in h (closure i ρ)) _ _ (λ o. w) (hd _ (closure i ρ) w)
    level_well ρ S (expression (synch i j)) w = given_well (value_in h (closure i ρ)) _ _ (λ o. w) (hd _ (closure i ρ) w)
    level_well ρ S (condition x) w = tt
    level_well ρ S (arguments x) w = tt
    level_well ρ S unknown w = tt

    level_wellᶜ : (ρ : Slots) (S : List Frame) (x : Node) → Wellᶜ S → WellFound (down_byᶜ h (λ F. F) d c l ρ S x)
    unfolding down_byᶜ
    level_wellᶜ ρ S (expression x) w = tt
    level_wellᶜ ρ S (condition truth) w = tt
    level_wellᶜ ρ S (condition (not i)) w = given_well (bool_in h (closure i ρ)) _ _ (λ b. not_well h S b w) (hc _ (closure i ρ) w)
    level_wellᶜ ρ S (condition (and i j)) w = given_well (bool_in h (closure i ρ)) _ _ (λ b. w) (hc _ (closure i ρ) w)
    level_wellᶜ ρ S (condition (equal i j)) w =
        given_well (value_in h (closure i ρ)) _ _ (λ o. given_well (value_in h (closure j ρ)) _ _ (λ v. w) (hd _ (closure j ρ) w)) (hd _ (closure i ρ) w)
    level_wellᶜ ρ S (arguments x) w = tt
    level_wellᶜ ρ S unknown w = tt

    level_wellᵃ : (ρ : Slots) (S : List Frame) (m n : ℕ) (σ : Slots) (x : Node) → Well S → WellFound (down_byᵃ h (λ F. F) d c l ρ S m n σ x)
    unfolding down_byᵃ
    level_wellᵃ ρ S m n σ (expression x) w = w
    level_wellᵃ ρ S m n σ (condition x) w = w
    level_wellᵃ ρ S m n σ (arguments (list i j)) w =
        given_well (value_in h (closure i ρ)) _ _ (λ o. hl S m (suc n) (put σ n o) (closure j ρ) w) (hd _ (closure i ρ) w)
    level_wellᵃ ρ S m n σ (arguments list_end) w = w
    level_wellᵃ ρ S m n σ unknown w = w

  mutual
    unfolding down

    pub down_well : (k : ℕ) (S : List Frame) (x : Closure) → Well S → WellFound (down h k S x)
    down_well zero S x w = tt
    down_well (suc k) S x w =
        level_well (λ S y. down h k S y) (λ S y. downᶜ h k S y) (λ S m n σ y. downᵃ h k S m n σ y)
        (λ S y w. down_well k S y w) (λ S y w. down_wellᶜ k S y w) (λ S m n σ y w. down_wellᵃ k S m n σ y w) x.slots S (h x.at) w

    pub down_wellᶜ : (k : ℕ) (S : List Frame) (x : Closure) → Wellᶜ S → WellFound (downᶜ h k S x)
    down_wellᶜ zero S x w = tt
    down_wellᶜ (suc k) S x w =
        level_wellᶜ (λ S y. down h k S y) (λ S y. downᶜ h k S y) (λ S m n σ y. downᵃ h k S m n σ y)
        (λ S y w. down_well k S y w) (λ S y w. down_wellᶜ k S y w) (λ S m n σ y w. down_wellᵃ k S m n σ y w) x.slots S (h x.at) w

    pub down_wellᵃ : (k : ℕ) (S : List Frame) (m n : ℕ) (σ : Slots) (x : Closure) → Well S → WellFound (downᵃ h k S m n σ x)
    down_wellᵃ zero S m n σ x w = w
    down_wellᵃ (suc k) S m n σ x w =
        level_wellᵃ (λ S y. down h k S y) (λ S y. downᶜ h k S y) (λ S m n σ y. downᵃ h k S m n σ y)
        (λ S y w. down_well k S y w) (λ S y w. down_wellᶜ k S y w) (λ S m n σ y w. down_wellᵃ k S m n σ y w) x.slots S m n σ (h x.at) w

  module _ (N : ℕ) where
    up_well : (S : List Frame) (v : ℕ) → Well S → WellFound (up h N S v)
    unfolding up
    up_well [] v w = tt
    up_well (Frame.read f ∷ S) v w = w
    up_well (Frame.write₁ f x ∷ S) v w = given_well (value_in h x) _ _ (λ o. w) (down_well N (Frame.write₂ v f ∷ S) x w)
    up_well (Frame.write₂ o f ∷ S) v w = w
    up_well (Frame.call m n σ x ∷ S) v w = down_wellᵃ N S m (suc n) (put σ n v) x w
    up_well (Frame.let_in x y ∷ S) v w = w
    up_well (Frame.synch x ∷ S) v w = w
    up_well (Frame.hold o ∷ S) v w = w
    up_well (Frame.join ∷ S) v w = w
    up_well (Frame.signal j ∷ S) v w = w
    up_well (Frame.while_body x ∷ S) v w = w
    up_well (Frame.equal₁ x ∷ S) v w = given_well (value_in h x) _ _ (λ o. w) (down_well N (Frame.equal₂ v ∷ S) x w)
    up_well (Frame.equal₂ o ∷ S) v w = w
    up_well (Frame.if x ∷ S) v w = absurd w
    up_well (Frame.while_test x ∷ S) v w = absurd w
    up_well (Frame.and x ∷ S) v w = absurd w
    up_well (Frame.not ∷ S) v w = absurd w

    pub up_wellᶜ : (S : List Frame) (b : Bool) → Wellᶜ S → WellFound (upᶜ h N S b)
    unfolding upᶜ
    up_wellᶜ [] b w = absurd w
    up_wellᶜ (Frame.read f ∷ S) b w = absurd w
    up_wellᶜ (Frame.write₁ f x ∷ S) b w = absurd w
    up_wellᶜ (Frame.write₂ o f ∷ S) b w = absurd w
    up_wellᶜ (Frame.call m n σ x ∷ S) b w = absurd w
    up_wellᶜ (Frame.let_in x y ∷ S) b w = absurd w
    up_wellᶜ (Frame.synch x ∷ S) b w = absurd w
    up_wellᶜ (Frame.hold o ∷ S) b w = absurd w
    up_wellᶜ (Frame.join ∷ S) b w = absurd w
    up_wellᶜ (Frame.signal j ∷ S) b w = absurd w
    up_wellᶜ (Frame.while_body x ∷ S) b w = absurd w
    up_wellᶜ (Frame.equal₁ x ∷ S) b w = absurd w
    up_wellᶜ (Frame.equal₂ o ∷ S) b w = absurd w
    up_wellᶜ (Frame.if x ∷ S) b w = w
    up_wellᶜ (Frame.while_test x ∷ S) b w = w
    up_wellᶜ (Frame.and x ∷ S) b w = w
    up_wellᶜ (Frame.not ∷ S) true w = up_wellᶜ S false w
    up_wellᶜ (Frame.not ∷ S) false w = w

    pub enter_well : (S : List Frame) (x : Closure) → Well S → WellFound (enter h N S x)
    unfolding enter
    enter_well S x w = given_well (value_in h x) _ _ (λ v. up_well S v w) (down_well N S x w)

    pub enter_wellᶜ : (S : List Frame) (x : Closure) → Wellᶜ S → WellFound (enterᶜ h N S x)
    unfolding enterᶜ
    enter_wellᶜ S x w = given_well (bool_in h x) _ _ (λ b. up_wellᶜ S b w) (down_wellᶜ N S x w)

    pub go_well : (S : List Frame) (r : Result) → Well S → WellFound (go h N S r)
    unfolding go
    go_well S (Result.value v) w = up_well S v w
    go_well S (Result.run x) w = enter_well S x w
    go_well S (Result.held o x) w = enter_well (Frame.hold o ∷ S) x w
    go_well S (Result.while_test x) w = enter_wellᶜ (Frame.while_test x ∷ S) (first_of x) w
    go_well S (Result.while_body x) w = enter_well (Frame.while_body x ∷ S) (second_of x) w
    go_well S (Result.while_again x) w = w
    go_well S (Result.waiting o) w = w
