-- A pick that stops the run stops it for good: for a missing key or for room. Assumes nothing.
use mathlib.Core.Path.{◌≡◌, refl, sym, ap, ◌∙◌}
use mathlib.Core.Bool.{Bool, true, not, false, cond}
use mathlib.Core.List.{List}
use Prim.Native.Nat.{ℕ}
use borrow.Author.Tests.{not-true}
use Rattle.run_refocusing.specs.Inner.Refocusing.{Stack, Ended}
use Rattle.run_outcome.specs.declared.NoRoom.{NoRoom}
use Rattle.run_outcome.specs.declared.Stop.{Stop}
use Rattle.run_outcome.specs.declared.Outcome.{Outcome}
use Rattle.run_state.specs.declared.Setting.{Setting}
use Rattle.run_state.specs.declared.Entry.{Entry}
use Rattle.run_state.specs.declared.acted.Act.{Act}
use Rattle.run_state.specs.declared.acted.Act.TheVariants as act
use Rattle.run_state.specs.declared.acted.Acted.{Acted}
use Rattle.run_look.specs.declared.Sight.{Sight}
use Rattle.run_look.specs.declared.Sight.TheVariants as sight
use Rattle.run_pick.specs.declared.Met.{Met}
use Rattle.run_pick.specs.Inner.Answer.{Move, PickAnswer, PickAnswer as answer}
use Rattle.run_pick.specs.Inner.Pick.{picked, no_room, full_of, forks_of, refocus_forked, start_by, refocus_by, make_by, act_met, pick_by, look_met, pick_of}
use Rattle.run_engine.specs.Inner.Engine.{EngineState, picked_by}
use Rattle.run_open_threads.specs.Inner.Open.{open_at, unstopped, open_after}

-- an answer that stops the run does not end it
abbrev halts : PickAnswer → Bool
halts answer.Passed = true
halts (answer.Moved v) = true
halts (answer.Stopped e y) = not (unstopped e)

module _ (ws rs : List ℕ) (setting : Setting) (x : Met) where
  refocused_halts : (full forks forked : Bool) (k k' : Stack) (r r' : NoRoom) (v v' : Move)
      → halts (cond full (picked k (no_room r))
      (cond forks (cond forked (picked k' (no_room r')) (picked k' (answer.Moved v'))) (picked k (answer.Moved v)))).answer
      ≡ true
  refocused_halts true forks forked k k' r r' v v' = refl
  refocused_halts false true true k k' r r' v v' = refl
  refocused_halts false true false k k' r r' v v' = refl
  refocused_halts false false forked k k' r r' v v' = refl

  refocus_halts : (a : Acted) (l : Ended) → halts (refocus_by ws rs x a l).answer ≡ true
  unfolding refocus_by start_by
  refocus_halts a l = refocused_halts (full_of l.refocused) (forks_of x.head) (full_of (refocus_forked ws rs x l.stack).refocused) _ _ _ _ _ _

  make_halts : (a : Act) (k : Stack) → halts (make_by ws rs x a k).answer ≡ true
  make_halts (act.Done a) k = refocus_halts a _
  make_halts (act.NoRoom r) k = refl

  sight_halts : (s : Sight) (k : Stack) → halts (pick_by ws rs setting x s k).answer ≡ true
  sight_halts sight.Ready k = make_halts (act_met setting x) k
  sight_halts sight.Lacking k = refl
  sight_halts (sight.Blocked b) k = refl

  pick_halts : (k : Stack) → halts (pick_of ws rs setting x k).answer ≡ true
  unfolding pick_of
  pick_halts k = sight_halts (look_met setting x) k

-- thread p's pick stops the run: for a missing key or for room
pub stop_halts : (ws rs : List ℕ) (setting : Setting) (m : EngineState) (p : ℕ) (e : Stop) (y : Entry) → (picked_by ws rs setting m p).answer ≡ answer.Stopped e y
    → unstopped e ≡ false
stop_halts ws rs setting m p e y h = not-true (unstopped e) (ap halts (sym h) ∙ pick_halts ws rs setting _ m.stack)

-- after such a stop no thread can be picked
pub shut_after : (o : Outcome) (k : ℕ) → unstopped o.stop ≡ false → open_after o k ≡ false
unfolding open_after
shut_after o k h = rw h
