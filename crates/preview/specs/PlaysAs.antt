-- "The preview equals what playing the schedule with that pick added does" (document 02, E1): each way that it can come out, by the rules as relations.
-- Assumes nothing.
use Rattle.std.specs.Prelude.{ℕ, ◌+◌, ◌≡◌, List, [], ◌∷◌, ◌++◌}
use Rattle.std.proofs.Math.Option.{Option, some, none}
use Rattle.plan_packed.specs.Syntax.{Program}
use Rattle.plan_packed.specs.Trees.{program_of}
use Rattle.log_records.specs.Record.{Record}
use Rattle.rules.specs.State.{State}
use Rattle.rules.specs.Rules.{Rule, Moves, Lacks}
use Rattle.rules.specs.Step.{Attempt}
use Rattle.rules.specs.Room.{PassedOver, Room, no_room_for}
use Rattle.rules.specs.Run.{Stop, MadeMove, Run, status}
use Rattle.rules.specs.Play.{run_of}
use Rattle.preview.specs.Preview.{Preview, with_pick, Previewed}

-- a run with one pick more dealt with: it did not stop, these moves came last, and it stands in this state
abbrev pub one_pick_more : Run → List MadeMove → State → Run
one_pick_more r ms s = record { stop = Stop.end; picks = r.picks + 1; moves = r.moves ++ ms; lacked = none; final = s }

-- a run that stopped at the next pick, "unmoved": how, and the record of the access that lacked its key if that stopped it
abbrev pub stopped_next : Run → Stop → Option Record → Run
stopped_next r e lacked = record { stop = e; picks = r.picks; moves = r.moves; lacked = lacked; final = r.final }

-- The run r of a schedule, what the preview of thread p's pick after it says, and the run of the schedule with that pick added.
module _ (g : Program) (p : ℕ) (r : Run) where
  pub data PlaysAs : Preview → Run → Type 0 where
    -- "If the schedule itself already stopped, the preview says so.": how it stopped, and the pick is not dealt with
    STOPPED : (r.stop ≡ Stop.end → ⊥) → PlaysAs (Preview.stopped r.stop) r
    -- "passed over and why": the thread is absent, finished, waiting or stuck, and nothing changes
    PASSED : {a : Attempt}
        → r.stop ≡ Stop.end → PassedOver r.final p a
        → PlaysAs (Preview.passed (status a)) (one_pick_more r [] r.final)
    -- "moved and with which record": one move more, its rule and its record, if it has one, after the others
    MOVED : {R : Rule} {e : Option Record} {s' : State}
        → r.stop ≡ Stop.end → Moves g r.final p R e s' → no_room_for R r.final p s' ≡ none
        → PlaysAs (Preview.moved e) (one_pick_more r (record { thread = p; rule = R; entry = e } ∷ []) s')
    -- "race": the run stops for want of a key, and its record is the last
    RACE : {e : Record}
        → r.stop ≡ Stop.end → Lacks g r.final p e
        → PlaysAs (Preview.race e) (stopped_next r Stop.race (some e))
    -- "no room and of what kind": the run stops for room that a rule's move would lack
    NO-ROOM : {R : Rule} {e : Option Record} {s' : State} {k : Room}
        → r.stop ≡ Stop.end → Moves g r.final p R e s' → no_room_for R r.final p s' ≡ some k
        → PlaysAs (Preview.no_room k) (stopped_next r (Stop.no_room k) none)

-- of the answer to a preview, where it is not refused
abbrev pub PlaysIfShown : (plan schedule : List ℕ) → ℕ → Previewed → Type 0
PlaysIfShown plan schedule pick a =
    (x : Preview) → a ≡ Previewed.shows x → PlaysAs (program_of plan) pick (run_of plan schedule) x (run_of plan (with_pick schedule pick))
