-- What it says that no room is lacking, and that the answer to a pick is a move. Assumes nothing.
use Prim.Native.Nat.{ℕ, ◌<◌}
use mathlib.Core.Path.{◌≡◌, refl, sym, ap, ◌∙◌}
use mathlib.Core.Bool.{Bool, true, false, cond, true≢false}
use mathlib.Core.Option.{Option, some, none}
use lib.Dec.{leb}
use borrow.Author.Tests.{leb-false}
use Rattle.rules.specs.State.{Form, StateOf}
use Rattle.rules.specs.Step.{MoveOf, AttemptOf}
use Rattle.rules.specs.Room.{Room, no_room_for, PickAnswerOf, within_room, answer}

-- there is room where the test says so
pub room_for : (k n : ℕ) (w : Room) (r : Option Room) → cond (leb k n) (some w) r ≡ none → (n < k) × (r ≡ none)
room_for k n w r e = at (leb k n) refl e
  where
    at : (b : Bool) → leb k n ≡ b → cond b (some w) r ≡ none → (n < k) × (r ≡ none)
    at true q e = absurd (true≢false cc)
    at false q e = (leb-false k n q, e)

module _ {F : Form} where
  within_moved : (m m' : MoveOf F) (k : Option Room) → within_room m k ≡ PickAnswerOf.moved m' → (m ≡ m') × (k ≡ none)
  unfolding within_room
  within_moved m m' none h = (cc, refl)
  within_moved m m' (some k) h = absurd (true≢false cc)

  -- a pick that moves its thread: what the thread can do is that move, and there is room for it
  pub answer_moved : (s : StateOf F) (p : ℕ) (a : AttemptOf F) (m : MoveOf F) → answer s p a ≡ PickAnswerOf.moved m
      → (a ≡ AttemptOf.moves m) × (no_room_for m.rule s p m.state ≡ none)
  unfolding answer
  answer_moved s p AttemptOf.absent m h = absurd (true≢false cc)
  answer_moved s p (AttemptOf.finished v) m h = absurd (true≢false cc)
  answer_moved s p (AttemptOf.waiting w) m h = absurd (true≢false cc)
  answer_moved s p (AttemptOf.stuck r) m h = absurd (true≢false cc)
  answer_moved s p (AttemptOf.lacking r) m h = absurd (true≢false cc)
  answer_moved s p (AttemptOf.moves m') m h =
      let a = within_moved m' m (no_room_for m'.rule s p m'.state) h in
      (ap AttemptOf.moves a.0, ap (λ (x : MoveOf F). no_room_for x.rule s p x.state) (sym a.0) ∙ a.1)
