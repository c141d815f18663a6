-- Executions (document 001, definition 6.5), with the picks passed over and the stop, for demand 2 (README, "What is proved"): each move by a rule of the
-- write keys, one rule to each move, nothing passed over, stuck or stopped except for document 01's reasons. That every plain write of an execution stores a
-- new key is `WritesNew` (`NewKeys`). Assumes nothing.
use Rattle.std.specs.Prelude.{ℕ, suc, ◌≡◌, List, [], ◌∷◌}
use Rattle.std.proofs.Math.Option.{Option, some, none}
use Rattle.plan_packed.specs.Syntax.{Program}
use Rattle.log_records.specs.Record.{Record}
use Rattle.rules.specs.State.{State}
use Rattle.rules.specs.Rules.{Rule, Moves, Lacks}
use Rattle.rules.specs.Step.{Attempt}
use Rattle.rules.specs.Room.{PassedOver, Room, no_room_for}
use Rattle.rules.specs.Run.{Stop, Run, after_pass, after_move, stopped}

-- The run r of the picks from state s deals with each pick in one of four ways: it is passed over for a reason of document 01's; the run stops for
-- want of a key; the run stops for room that a rule's move would lack; or the thread moves by a rule, and the run keeps the thread, the rule's name and
-- the record, and goes on from the state after it.
module _ (g : Program) where
  pub data Execution : State → List ℕ → Run → Type 0 where
    ends : {s : State} → Execution s [] (stopped Stop.end none s)
    passes : {s : State} {p : ℕ} {ps : List ℕ} {r : Run} {a : Attempt}
        → PassedOver s p a → Execution s ps r
        → Execution s (p ∷ ps) (after_pass r)
    lacks_key_lem : {s : State} {p : ℕ} {ps : List ℕ} {e : Record}
        → Lacks g s p e
        → Execution s (p ∷ ps) (stopped Stop.race (some e) s)
    no_room_lem : {s s' : State} {p : ℕ} {ps : List ℕ} {R : Rule} {e : Option Record} {k : Room}
        → Moves g s p R e s' → no_room_for R s p s' ≡ some k
        → Execution s (p ∷ ps) (stopped (Stop.no_room k) none s)
    moves : {s s' : State} {p : ℕ} {ps : List ℕ} {r : Run} {R : Rule} {e : Option Record}
        → Moves g s p R e s' → no_room_for R s p s' ≡ none → Execution s' ps r
        → Execution s (p ∷ ps) (after_move p (record { rule = R; entry = e; state = s' }) r)

-- how many moves an execution has: the number of its rule instances
unfoldable pub move_count : {g : Program} {s : State} {ps : List ℕ} {r : Run} → Execution g s ps r → ℕ
move_count ends = 0
move_count (passes h x) = move_count x
move_count (lacks_key_lem h) = 0
move_count (no_room_lem h e) = 0
move_count (moves h k x) = suc (move_count x)
