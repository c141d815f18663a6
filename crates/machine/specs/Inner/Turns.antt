-- The abstract machine; no reader of the entries' promises needs it. Refocusing in turns, as the code's loop makes it: where refocusing stands, and
-- one turn of it. h gives the nodes of a plan of N terms. Assumes nothing.
use Rattle.std.specs.Prelude.{ℕ, Bool, true, false, List, [], ◌∷◌}
use Rattle.plan_packed.specs.Trees.{Node}
use Rattle.machine.specs.Inner.Frames.{Slots, Closure, Frame, Ready, Readyᶜ, Found}
use Rattle.machine.specs.Inner.Refocusing
use Rattle.machine.specs.Inner.Refocusing.{given, value_in, bool_in, down_by, down_byᶜ, down_byᵃ, up_by, downᵃ, nowhere, up, upᶜ}

-- what refocusing goes on with, in the hole of its frames
pub data Going : Type 0 where
  value : ℕ → Going  -- a value, up into the innermost frame
  truth : Bool → Going  -- a condition's value
  enter : Closure → Going  -- an expression
  enterᶜ : Closure → Going  -- a condition
  down : Closure → Going  -- an expression that is no value
  downᶜ : Closure → Going  -- a condition that is no value
  list : ℕ → ℕ → Slots → Closure → Going  -- the rest of a call's list: the procedure, how many values there are, in slots 0 upward

pub data Turn : Type 0 where
  ends : Found → Turn
  goes : List Frame → Going → Turn

abbrev pub go_down : List Frame → Closure → Turn
go_down S x = goes S (down x)

abbrev pub go_downᶜ : List Frame → Closure → Turn
go_downᶜ S x = goes S (downᶜ x)

abbrev pub go_list : List Frame → ℕ → ℕ → Slots → Closure → Turn
go_list S m n σ x = goes S (list m n σ x)

module _ (h : ℕ → Node) (N : ℕ) where
  -- what refocusing finds
  unfoldable pub refocus : List Frame → Going → Found
  unfolding up upᶜ Refocusing.enter Refocusing.enterᶜ Refocusing.down
  refocus S (value v) = up h N S v
  refocus S (truth b) = upᶜ h N S b
  refocus S (enter x) = Refocusing.enter h N S x
  refocus S (enterᶜ x) = Refocusing.enterᶜ h N S x
  refocus S (down x) = Refocusing.down h N S x
  refocus S (downᶜ x) = Refocusing.downᶜ h N S x
  refocus S (list m n σ x) = downᵃ h N S m n σ x

  unfoldable pub truth_turn : List Frame → Bool → Turn
  truth_turn [] b = ends (nowhere h N b)
  truth_turn (Frame.if x ∷ S) b = ends (Found.here S (Ready.if b x))
  truth_turn (Frame.and x ∷ S) b = ends (Found.hereᶜ S (Readyᶜ.and b x))
  truth_turn (Frame.not ∷ S) true = goes S (truth false)
  truth_turn (Frame.not ∷ S) false = ends (Found.hereᶜ S Readyᶜ.not_false)
  truth_turn (Frame.while_test x ∷ S) b = ends (Found.here S (Ready.while_test b x))
  truth_turn (Frame.read f ∷ S) b = ends (nowhere h N b)
  truth_turn (Frame.write₁ f x ∷ S) b = ends (nowhere h N b)
  truth_turn (Frame.write₂ o f ∷ S) b = ends (nowhere h N b)
  truth_turn (Frame.call m n σ x ∷ S) b = ends (nowhere h N b)
  truth_turn (Frame.let_in x y ∷ S) b = ends (nowhere h N b)
  truth_turn (Frame.synch x ∷ S) b = ends (nowhere h N b)
  truth_turn (Frame.hold o ∷ S) b = ends (nowhere h N b)
  truth_turn (Frame.join ∷ S) b = ends (nowhere h N b)
  truth_turn (Frame.signal k ∷ S) b = ends (nowhere h N b)
  truth_turn (Frame.equal₁ x ∷ S) b = ends (nowhere h N b)
  truth_turn (Frame.equal₂ o ∷ S) b = ends (nowhere h N b)
  truth_turn (Frame.while_body x ∷ S) b = ends (nowhere h N b)

  -- one turn
  unfoldable pub turn : List Frame → Going → Turn
  unfolding up_by down_by down_byᶜ down_byᵃ value_in bool_in truth_turn
  turn S (value v) = up_by h ends go_down go_downᶜ go_list S v
  turn S (truth b) = truth_turn S b
  turn S (enter x) = given (value_in h x) (λ v. goes S (value v)) (goes S (down x))
  turn S (enterᶜ x) = given (bool_in h x) (λ b. goes S (truth b)) (goes S (downᶜ x))
  turn S (down x) = down_by h ends go_down go_downᶜ go_list x.slots S (h x.at)
  turn S (downᶜ x) = down_byᶜ h ends go_down go_downᶜ go_list x.slots S (h x.at)
  turn S (list m n σ x) = down_byᵃ h ends go_down go_downᶜ go_list x.slots S m n σ (h x.at)

  -- what refocusing finds after a turn
  unfoldable pub refocus_turn : Turn → Found
  unfolding refocus
  refocus_turn (ends F) = F
  refocus_turn (goes S g) = refocus S g
