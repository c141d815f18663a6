-- Refocusing in turns finds what refocusing finds, in a table of nodes in which children come after parents: a turn does not change what is found, and
-- what is no value is found under all the frames that are there. Assumes nothing.
use Prim.Native.Nat.{ℕ, zero, suc, ◌+◌, ◌≤◌}
use native.Mathlib.Omega.{arith}
use mathlib.Core.Path.{◌≡◌, refl, ◌∙◌}
use mathlib.Core.Bool.{Bool, true, false}
use mathlib.Core.List.{List, [], ◌∷◌}
use mathlib.Core.Option.{Option, some, none}
use Rattle.plan_packed.specs.Trees.{Node}
use Rattle.plan_packed.specs.Inner.Steps.{Descending}
use Rattle.machine.specs.Inner.Frames.{Slots, Closure, Frame, Found}
use Rattle.machine.specs.Inner.Refocusing.{given, value_in, bool_in, down_by, down, downᶜ, downᵃ, up, upᶜ, enter, enterᶜ}
use Rattle.machine.specs.Inner.Turns.{Going, Turn, ends, goes, go_down, go_downᶜ, go_list, refocus, truth_turn, turn, refocus_turn}
use Rattle.machine.proofs.Levels.{level, levelᶜ, levelᵃ, up_level}

module _ (h : ℕ → Node) (N : ℕ) (o : Descending h N) where
  -- ---- how far the way down is looked into does not matter

  mutual
    unfolding down down_by

    down_fuel : (k k' : ℕ) (S : List Frame) (x : Closure) → N ≤ x.at + k → N ≤ x.at + k' → down h k S x ≡ down h k' S x
    down_fuel zero zero S x p q = refl
    down_fuel zero (suc k') S x p q = rw (o.past x.at (omega arith))
    down_fuel (suc k) zero S x p q = rw (o.past x.at (omega arith))
    down_fuel (suc k) (suc k') S x p q =
        level h (λ (F G : Found). F ≡ G) (λ F. F) (λ F. F) (λ F. refl)
        (λ S y. down h k S y) (λ S y. downᶜ h k S y) (λ S m n σ y. downᵃ h k S m n σ y) (λ S y. down h k' S y) (λ S y. downᶜ h k' S y)
        (λ S m n σ y. downᵃ h k' S m n σ y)
        S x.at (λ F y b v. down_fuel k k' (F ∷ S) y (omega arith) (omega arith)) (λ F y b v. down_fuelᶜ k k' (F ∷ S) y (omega arith) (omega arith))
        (λ m n σ y b. down_fuelᵃ k k' S m n σ y (omega arith) (omega arith)) x.slots (h x.at) (o.below x.at)

    down_fuelᶜ : (k k' : ℕ) (S : List Frame) (x : Closure) → N ≤ x.at + k → N ≤ x.at + k' → downᶜ h k S x ≡ downᶜ h k' S x
    down_fuelᶜ zero zero S x p q = refl
    down_fuelᶜ zero (suc k') S x p q = rw (o.past x.at (omega arith))
    down_fuelᶜ (suc k) zero S x p q = rw (o.past x.at (omega arith))
    down_fuelᶜ (suc k) (suc k') S x p q =
        levelᶜ h (λ (F G : Found). F ≡ G) (λ F. F) (λ F. F) (λ F. refl)
        (λ S y. down h k S y) (λ S y. downᶜ h k S y) (λ S m n σ y. downᵃ h k S m n σ y) (λ S y. down h k' S y) (λ S y. downᶜ h k' S y)
        (λ S m n σ y. downᵃ h k' S m n σ y)
        S x.at (λ F y b v. down_fuel k k' (F ∷ S) y (omega arith) (omega arith)) (λ F y b v. down_fuelᶜ k k' (F ∷ S) y (omega arith) (omega arith))
        (λ m n σ y b. down_fuelᵃ k k' S m n σ y (omega arith) (omega arith)) x.slots (h x.at) (o.below x.at)

    down_fuelᵃ : (k k' : ℕ) (S : List Frame) (m n : ℕ) (σ : Slots) (x : Closure) → N ≤ x.at + k → N ≤ x.at + k' → downᵃ h k S m n σ x ≡ downᵃ h k' S m n σ x
    down_fuelᵃ zero zero S m n σ x p q = refl
    down_fuelᵃ zero (suc k') S m n σ x p q = rw (o.past x.at (omega arith))
    down_fuelᵃ (suc k) zero S m n σ x p q = rw (o.past x.at (omega arith))
    down_fuelᵃ (suc k) (suc k') S m n σ x p q =
        levelᵃ h (λ (F G : Found). F ≡ G) (λ F. F) (λ F. F) (λ F. refl)
        (λ S y. down h k S y) (λ S y. downᶜ h k S y) (λ S m n σ y. downᵃ h k S m n σ y) (λ S y. down h k' S y) (λ S y. downᶜ h k' S y)
        (λ S m n σ y. downᵃ h k' S m n σ y)
        S x.at (λ F y b v. down_fuel k k' (F ∷ S) y (omega arith) (omega arith)) (λ F y b v. down_fuelᶜ k k' (F ∷ S) y (omega arith) (omega arith))
        (λ m n σ y b. down_fuelᵃ k k' S m n σ y (omega arith) (omega arith)) x.slots m n σ (h x.at) (o.below x.at)

  -- ---- a turn does not change what is found

  abbrev Same : Turn → Found → Type 0
  Same r F = F ≡ refocus_turn h N r

  given_refocuses : {A : Type 0} (v : Option A) (S : List Frame) (k : A → Going) (g : Going)
      → given v (λ a. refocus h N S (k a)) (refocus h N S g) ≡ refocus_turn h N (given v (λ a. goes S (k a)) (goes S g))
  unfolding refocus_turn
  given_refocuses (some a) S k g = refl
  given_refocuses none S k g = refl

  truth_refocuses : (S : List Frame) (b : Bool) → upᶜ h N S b ≡ refocus_turn h N (truth_turn h N S b)
  unfolding upᶜ truth_turn refocus_turn
  truth_refocuses [] b = refl
  truth_refocuses (Frame.if x ∷ S) b = refl
  truth_refocuses (Frame.and x ∷ S) b = refl
  truth_refocuses (Frame.not ∷ S) true = refl
  truth_refocuses (Frame.not ∷ S) false = refl
  truth_refocuses (Frame.while_test x ∷ S) b = refl
  truth_refocuses (Frame.read f ∷ S) b = refl
  truth_refocuses (Frame.write₁ f x ∷ S) b = refl
  truth_refocuses (Frame.write₂ a f ∷ S) b = refl
  truth_refocuses (Frame.call m n σ x ∷ S) b = refl
  truth_refocuses (Frame.let_in x y ∷ S) b = refl
  truth_refocuses (Frame.synch x ∷ S) b = refl
  truth_refocuses (Frame.hold a ∷ S) b = refl
  truth_refocuses (Frame.join ∷ S) b = refl
  truth_refocuses (Frame.signal j ∷ S) b = refl
  truth_refocuses (Frame.equal₁ x ∷ S) b = refl
  truth_refocuses (Frame.equal₂ a ∷ S) b = refl
  truth_refocuses (Frame.while_body x ∷ S) b = refl

  pub turn_refocuses : (S : List Frame) (g : Going) → refocus h N S g ≡ refocus_turn h N (turn h N S g)
  unfolding refocus turn refocus_turn enter enterᶜ up down
  turn_refocuses S (Going.value v) =
      up_level h Same ends (λ F. F) (λ F. refl)
      go_down go_downᶜ go_list (λ S y. down h N S y) (λ S y. downᶜ h N S y) (λ S m n σ y. downᵃ h N S m n σ y) (λ S y e. refl) (λ S m n σ y. refl) S v
  turn_refocuses S (Going.truth b) = truth_refocuses S b
  turn_refocuses S (Going.enter x) = given_refocuses (value_in h x) S Going.value (Going.down x)
  turn_refocuses S (Going.enterᶜ x) = given_refocuses (bool_in h x) S Going.truth (Going.downᶜ x)
  turn_refocuses S (Going.down x) =
      down_fuel N (suc N) S x (omega arith) (omega arith)
      ∙ level h Same ends (λ F. F) (λ F. refl)
      go_down go_downᶜ go_list (λ S y. down h N S y) (λ S y. downᶜ h N S y) (λ S m n σ y. downᵃ h N S m n σ y)
      S x.at (λ F y b e. refl) (λ F y b e. refl) (λ m n σ y b. refl) x.slots (h x.at) (o.below x.at)
  turn_refocuses S (Going.downᶜ x) =
      down_fuelᶜ N (suc N) S x (omega arith) (omega arith)
      ∙ levelᶜ h Same ends (λ F. F) (λ F. refl)
      go_down go_downᶜ go_list (λ S y. down h N S y) (λ S y. downᶜ h N S y) (λ S m n σ y. downᵃ h N S m n σ y)
      S x.at (λ F y b e. refl) (λ F y b e. refl) (λ m n σ y b. refl) x.slots (h x.at) (o.below x.at)
  turn_refocuses S (Going.list m n σ x) =
      down_fuelᵃ N (suc N) S m n σ x (omega arith) (omega arith)
      ∙ levelᵃ h Same ends (λ F. F) (λ F. refl)
      go_down go_downᶜ go_list (λ S y. down h N S y) (λ S y. downᶜ h N S y) (λ S m n σ y. downᵃ h N S m n σ y)
      S x.at (λ F y b e. refl) (λ F y b e. refl) (λ m n σ y b. refl) x.slots m n σ (h x.at) (o.below x.at)
