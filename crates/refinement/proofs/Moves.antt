-- A move of a thread, as the code makes it and as the abstract machine does. Assumes nothing.
use Prim.Native.Nat.{ℕ, ◌+◌, ◌*◌, ◌%◌, ◌<◌}
use mathlib.Core.Path.{◌≡◌}
use mathlib.Core.Bool.{true, false}
use mathlib.Core.List.{List, [], ◌∷◌, ◌++◌}
use mathlib.Core.Option.{Option, some, none}
use lib.ListN.{set, get_elem?}
use Rattle.run_keys.specs.Keys.{Keys}
use Rattle.run_keys.specs.Inner.KeySet.{keys_of}
use Rattle.run_keys.proofs.KeySetLaws.{Fits}
use Rattle.plan_packed.specs.Trees.{program_of}
use Rattle.plan_packed.specs.Check.{refusal}
use Rattle.rules.specs.Queue.{awake}
use Rattle.rules.specs.State.{change_at}
use Rattle.rules.specs.Room as rooms
use Rattle.rules.proofs.Relocated.{Relocated}
use Rattle.machine.specs.Inner.Frames as frames
use Rattle.machine.specs.Inner.Machine as machine
use Rattle.machine.specs.Inner.Playing.{table_of}
use Rattle.machine.specs.Inner.Playing as playing
use Rattle.machine.proofs.Runs.{Reached}
use Rattle.run_frames.specs.Inner.RedexKinds.{RedexKind as redex, is_redex}
use Rattle.run_frames.specs.declared.refocusing.Ready.{Ready}
use Rattle.run_frames.specs.Inner.Going.{go_run}
use Rattle.run_outcome.specs.declared.NoRoom.{NoRoom}
use Rattle.run_outcome.specs.declared.NoRoom.TheVariants as room
use Rattle.run_state.specs.declared.acted.Act.{Act}
use Rattle.run_state.specs.declared.acted.Act.TheVariants as act
use Rattle.run_state.specs.declared.acted.Acted.{Acted}
use Rattle.run_look.specs.Inner.Look.{object_of}
use Rattle.run_pick.specs.declared.Met.{Met}
use Rattle.run_pick.specs.Inner.Pick.{act_met}
use Rattle.run_queue.specs.Inner.Queue.{after_of}
use Rattle.run_engine.specs.Inner.Engine as engine
use Rattle.run_engine.specs.Inner.Engine.{head_at, cell_number, met_at}
use Rattle.refinement.proofs.Meant.{Goes}
use Rattle.refinement.proofs.Queues.{places_of, Places}
use Rattle.refinement.proofs.States.{setting_of, Kept, Headed, Related}
use Rattle.refinement.proofs.Looks.{Entered}

-- what there is no room for
abbrev pub room_meant : NoRoom → rooms.Room
room_meant room.Thread = rooms.Room.thread
room_meant room.Object = rooms.Room.object
room_meant room.Key = rooms.Room.key
room_meant room.Depth = rooms.Room.depth

-- the threads, with a new one
abbrev pub with_forked : List machine.Thread → Option machine.Thread → List machine.Thread
with_forked xs none = xs
with_forked xs (some y) = xs ++ (y ∷ [])

-- a thread that has come to F, and knows the keys K, of which it has learnt this many
abbrev pub mover_in : frames.Found → Keys → ℕ → machine.Thread → machine.Thread
mover_in F K l x = record { self = x.self; expression = F; keys = K; learnt = l; place = x.place }

-- thread p is there, in a state s that a run of the accepted plan b has reached and that the engine's state m stands for
pub record Mover (b : List ℕ) (m : engine.EngineState) (s : machine.State) (p : ℕ) : Type 0 where
  pub ok : refusal b ≡ none
  pub related : Related b m s
  pub reached : Reached (table_of b) (program_of b) s
  pub small : p < 8
  pub thread : machine.Thread
  pub there : get_elem? s.threads p ≡ some thread
  pub headed : Headed b m.stack (p * 33) (head_at m.heads p) thread

module _ {b : List ℕ} {m : engine.EngineState} {s : machine.State} {p : ℕ} (mover : Mover b m s p) where
  -- the new thread, if the move is a fork
  abbrev pub ForkedBy : Ready → Option machine.Thread → Type 0
  ForkedBy r none = is_redex redex.Fork r.redex ≡ false
  ForkedBy r (some y) =
      (is_redex redex.Fork r.redex ≡ true) × (m.tally.counts.threads < 8) × (m.tally.counts.objects ≡ y.self) ×
      (keys_of (head_at m.heads p).keys ≡ y.keys) × (0 ≡ y.learnt) × (awake ≡ y.place) × Goes b (go_run r.first r.environment) [] y.expression

  -- the thread, at redex r, makes the move v, for which there is room: a is what the code does, with cell i
  pub record Does (r : Ready) (i : ℕ) (a : Acted) (v : machine.Move) : Type 0 where
    pub lacks : playing.no_room_before s v.rule ≡ none
    pub entered : Entered p a.entry v.entry
    pub expression : frames.Found
    pub goes : Goes b a.go mover.headed.stack expression
    pub forked : Option machine.Thread
    pub forked_by : ForkedBy r forked
    -- the threads, with the places that the move leaves them
    pub placed : List machine.Thread
    pub relocated : Relocated s.threads placed
    pub places : Places (after_of m.places r p) (places_of placed)
    pub threads : v.state.threads ≡ with_forked (change_at placed p (mover_in expression (keys_of a.keys) ((head_at m.heads p).learnt % 256 + a.new))) forked
    pub keys_fit : Fits a.keys
    pub kept : Kept (setting_of b) (set m.cells i a.cell) (set m.objects m.tally.counts.objects a.object) a.counts v.state

  -- the move, or the room that it lacks
  abbrev pub Acts : Ready → ℕ → Act → machine.Move → Type 0
  Acts r i (act.Done a) v = Does r i a v
  Acts r i (act.NoRoom R) v = playing.no_room_before s v.rule ≡ some (room_meant R)

-- what a pick of thread p meets
abbrev pub met : engine.EngineState → ℕ → Met
met m p = met_at m.tally.counts m.heads m.cells m.objects m.places p (cell_number (head_at m.heads p).ready)
    (object_of (head_at m.heads p).ready)

-- thread p is there, and what the code does is its move v
pub record Ahead (b : List ℕ) (m : engine.EngineState) (s : machine.State) (p : ℕ) (v : machine.Move) : Type 0 where
  pub mover : Mover b m s p
  pub acts : Acts mover (head_at m.heads p).ready (cell_number (head_at m.heads p).ready) (act_met (setting_of b) (met m p)) v
