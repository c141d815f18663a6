-- What the entry's answer says: document 01's words for each case, and those of document 02, E3. Assumes nothing.
use Rattle.std.specs.Prelude.{◌≡◌, map, replicate, Result, Ok, Err}
use Rattle.rules.specs.Step as step
use Rattle.rules.specs.Room as rules
use Rattle.rules.specs.Run as run
use Rattle.rules.specs.Play as play
use Rattle.run_outcome.specs.declared.NoRoom.{NoRoom}
use Rattle.run_outcome.specs.declared.NoRoom.TheVariants as no_room_lem
use Rattle.run_outcome.specs.declared.Stop.{Stop}
use Rattle.run_outcome.specs.declared.Stop.TheVariants as stop
use Rattle.run_outcome.specs.declared.Wait.{Wait}
use Rattle.run_outcome.specs.declared.Wait.TheVariants as wait
use Rattle.run_outcome.specs.declared.Stuck.{Stuck}
use Rattle.run_outcome.specs.declared.Stuck.TheVariants as stuck
use Rattle.run_outcome.specs.declared.ThreadState.{ThreadState}
use Rattle.run_outcome.specs.declared.ThreadState.TheVariants as state
use Rattle.run_outcome.specs.declared.Thread.{Thread}
use Rattle.run_outcome.specs.declared.Outcome.{Outcome}
use Rattle.play.specs.Played.{Played}
use Rattle.refusals.specs.declared.Refusal.{Refusal}
use Rattle.refusals.specs.Numbers.{refusal_of}

-- "no room (thread, object, key, depth)"
unfoldable pub room_of : NoRoom → rules.Room
room_of no_room_lem.Thread = rules.Room.thread
room_of no_room_lem.Object = rules.Room.object
room_of no_room_lem.Key = rules.Room.key
room_of no_room_lem.Depth = rules.Room.depth

-- "end, race, or no room"
unfoldable pub stop_of : Stop → run.Stop
unfolding room_of
stop_of stop.End = run.Stop.end
stop_of stop.Race = run.Stop.race
stop_of (stop.NoRoom r) = run.Stop.no_room (room_of r)

-- "waiting (monitor held by another, or join of an unfinished thread, itself included)"; and "The thread then waits until notified" (E3)
unfoldable pub wait_of : Wait → step.Wait
wait_of (wait.Monitor o) = step.Wait.for_monitor o
wait_of (wait.Join o) = step.Wait.for_join o
wait_of (wait.Notify o) = step.Wait.for_notify o

-- "stuck (field missing from the object, or join of an object that is no thread)"; and "Each needs the monitor held by the mover, else the thread is stuck
-- with a reason of its own." (E3); the last case is the definitions' own, to which no accepted plan comes
unfoldable pub stuck_of : Stuck → step.Stuck
stuck_of (stuck.Field o f) = step.Stuck.missing_field o f
stuck_of (stuck.Thread o) = step.Stuck.not_thread o
stuck_of (stuck.Monitor o) = step.Stuck.not_held o
stuck_of stuck.NoRule = step.Stuck.no_rule

-- "absent, finished with its value, ready, waiting, stuck with its reason, or lacking the key of a named object's named field"
unfoldable pub status_of : ThreadState → run.Status
unfolding wait_of stuck_of
status_of state.Absent = run.Status.absent
status_of (state.Finished v) = run.Status.finished v
status_of state.Ready = run.Status.ready
status_of (state.Waiting w) = run.Status.waiting (wait_of w)
status_of (state.Stuck w) = run.Status.stuck (stuck_of w)
status_of (state.Lacking o f) = run.Status.lacking o f

-- "The outcome holds: [..]", case by case as above
unfoldable pub outcome_of : Outcome → run.Outcome
unfolding stop_of status_of
outcome_of x = record {
  stop = stop_of x.stop;
  picks = x.picks;
  moves = x.moves;
  records = x.records;
  threads = map (λ (t : Thread). status_of t.state) x.threads;
  totals = map (λ (t : Thread). t.learnt) x.threads;
}

-- "A refused play has no run."
abbrev pub answered_by : Result (Unit {0}) Refusal → Outcome → play.Played
answered_by (Ok u) x = play.Played.ran (outcome_of x)
answered_by (Err r) x = play.Played.refused (refusal_of r)

-- what `play` answers: a refusal, or an outcome
unfoldable pub answered : Played → play.Played
unfolding outcome_of
answered r = answered_by r.checked r.outcome

-- "A refused play has no run": no picks, no moves, no records, no threads
abbrev pub no_run : Outcome
no_run = record { stop = stop.End; picks = 0; moves = 0; records = 0; threads = replicate 8 (record { state = state.Absent; learnt = 0 }) }

-- that is the outcome of a refused play
abbrev pub NoRunIfRefused : Played → Type 0
NoRunIfRefused p = (r : Refusal) → p.checked ≡ Err r → p.outcome ≡ no_run
