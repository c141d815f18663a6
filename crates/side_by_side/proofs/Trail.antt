-- The moves of a run, one record each, newest first; and a list of picks each of which moves. Assumes nothing.
use Prim.Native.Nat.{ℕ}
use mathlib.Core.Path.{◌≡◌}
use mathlib.Core.List.{List, [], ◌∷◌}
use mathlib.Core.Option.{Option, none}
use Rattle.plan_packed.specs.Syntax.{Program}
use Rattle.log_records.specs.Record.{Record}
use Rattle.rules.specs.State.{State, start}
use Rattle.rules.specs.Rules.{Rule, Moves}
use Rattle.rules.specs.Step.{Move}
use Rattle.rules.specs.Room.{no_room_for, PickAnswerOf, step}
use Rattle.side_by_side.specs.Moves.{shown}

pub data Trail (g : Program) : State → List Record → Type 0 where
  begin : Trail g start []
  move : {s s' : State} {H : List Record} {R : Rule} {r : Option Record} → Trail g s H → (p : ℕ) → Moves g s p R r s' → no_room_for R s p s' ≡ none
      → Trail g s' (shown p r ∷ H)

-- the rest of a run, from s₀ on
pub data Later (g : Program) (s₀ : State) (H₀ : List Record) : State → List Record → Type 0 where
  none_yet : Later g s₀ H₀ s₀ H₀
  then : {s s' : State} {H : List Record} {R : Rule} {r : Option Record} → Trail g s H → Later g s₀ H₀ s H → (p : ℕ) → Moves g s p R r s'
      → no_room_for R s p s' ≡ none → Later g s₀ H₀ s' (shown p r ∷ H)

pub data Plays (g : Program) : State → List ℕ → State → Type 0 where
  done : {s : State} → Plays g s [] s
  pick : {s s' : State} {q : ℕ} {qs : List ℕ} (m : Move) → step g s q ≡ PickAnswerOf.moved m → Plays g m.state qs s' → Plays g s (q ∷ qs) s'
