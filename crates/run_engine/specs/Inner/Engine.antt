-- The run of a schedule over flat lists of records: what the code runs; no reader of the entries' promises needs it. Assumes nothing.
use Rattle.std.specs.Prelude.{ℕ, ◌+◌, ◌-◌, ◌*◌, ◌/◌, ◌%◌, ◌<◌, min, ◌≡◌, Bool, cond, List, [], ◌∷◌, leb, length, get_or, set, take, replicate}
use Rattle.run_keys.specs.Inner.KeySet.{zero_set}
use Rattle.run_frames.specs.Inner.RedexKinds.{RedexKind as redex}
use Rattle.run_frames.specs.declared.refocusing.Ready.{Ready}
use Rattle.run_frames.specs.Inner.Going.{ready_of}
use Rattle.run_refocusing.specs.Inner.Refocusing.{Stack}
use Rattle.run_outcome.specs.declared.Stop.{Stop}
use Rattle.run_outcome.specs.declared.Stop.TheVariants as stop
use Rattle.run_outcome.specs.declared.ThreadState.{ThreadState}
use Rattle.run_outcome.specs.declared.Thread.{Thread}
use Rattle.run_outcome.specs.declared.Outcome.{Outcome}
use Rattle.run_state.specs.declared.Setting.{Setting}
use Rattle.run_state.specs.declared.Head.{Head}
use Rattle.run_state.specs.declared.Cell.{Cell}
use Rattle.run_state.specs.declared.Object.{Object}
use Rattle.run_state.specs.declared.Counts.{Counts}
use Rattle.run_state.specs.declared.Entry.{Entry}
use Rattle.run_state.specs.Inner.Acted.{cell_of}
use Rattle.run_look.specs.Inner.Look.{object_of, field_of, look_of, state_of}
use Rattle.run_pick.specs.declared.Met.{Met}
use Rattle.run_pick.specs.Inner.Answer.{Move, PickAnswer, PickAnswer as answer}
use Rattle.run_pick.specs.Inner.Pick.{no_head, Picked, picked, pick_of}
use Rattle.run_queue.specs.Inner.Queue.{after_of}
use Rattle.run_open_threads.specs.Inner.Open.{absent}
use Rattle.run_tally.specs.declared.Tally.{Tally}
use Rattle.run_tally.specs.declared.Ran.{Ran}
use Rattle.run_tally.specs.Inner.Tally.{shown_entry, tally_first, tally_put, tally_moved, log_put, outcome_of}

-- past the end of a list: a first cell, zeros
abbrev pub no_cell : Cell
no_cell = record { value = 0; key = 0; keys = zero_set }

abbrev pub no_object : Object
no_object = record { mask = 0; thread = 0 }

-- the engine's state: heads of threads, cells, objects, places in queues, frames; whether every move has a record; what is counted, and the log
pub record EngineState : Type 0 where
  pub heads : List Head
  pub cells : List Cell
  pub objects : List Object
  pub places : List ℕ
  pub stack : Stack
  pub every : Bool
  pub tally : Tally
  pub log : List ℕ

-- ---- what a pick of thread p meets

abbrev pub head_at : List Head → ℕ → Head
head_at l p = get_or l p no_head

abbrev pub cell_number : Ready → ℕ
cell_number r = object_of r * 32 + field_of r

-- k is the number of the cell that r is about
pub record Placed (r : Ready) (k : ℕ) : Type 0 where
  pub cell : k ≡ cell_number r
  pub object : k / 32 ≡ object_of r
  pub inside : k < 1024

-- with its cell at k, of the object at o
abbrev pub met_at : Counts → List Head → List Cell → List Object → List ℕ → ℕ → ℕ → ℕ → Met
met_at n l cs ts qs p k o =
    record {
      counts = n;
      head = head_at l p;
      cell = get_or cs k no_cell;
      object = get_or ts o no_object;
      other = get_or l ((get_or ts o no_object).thread % 16) no_head;
      thread = p;
      place = get_or qs p 0;
    }

unfoldable pub met_by : Counts → List Head → List Cell → List Object → List ℕ → ℕ → Met
met_by n l cs ts qs p = met_at n l cs ts qs p (cell_number (head_at l p).ready) (object_of (head_at l p).ready)

-- ---- the threads at the end

abbrev pub state_by : Setting → Met → ThreadState
state_by g x = state_of (look_of g x.head x.cell x.object x.other.ready.redex x.place) x.head.ready

unfoldable pub thread_by : Setting → Met → Thread
thread_by g x = cond (leb x.counts.threads x.thread) absent (record { state = state_by g x; learnt = x.head.learnt % 256 })

abbrev pub thread_at : Setting → Counts → List Head → List Cell → List Object → List ℕ → ℕ → Thread
thread_at g n l cs ts qs p = thread_by g (met_by n l cs ts qs p)

unfoldable pub threads_of : Setting → Counts → List Head → List Cell → List Object → List ℕ → List Thread
threads_of g n l cs ts qs =
    thread_at g n l cs ts qs 0 ∷ thread_at g n l cs ts qs 1 ∷ thread_at g n l cs ts qs 2 ∷ thread_at g n l cs ts qs 3
    ∷ thread_at g n l cs ts qs 4 ∷ thread_at g n l cs ts qs 5 ∷ thread_at g n l cs ts qs 6 ∷ thread_at g n l cs ts qs 7 ∷ []

abbrev pub end_of : Stop → ℕ → Setting → Tally → List Head → List Cell → List Object → List ℕ → Outcome
end_of e i g s l cs ts qs = outcome_of e i s (threads_of g s.counts l cs ts qs)

-- ---- the run

pub record Played : Type 0 where
  pub outcome : Outcome
  pub area : List ℕ

-- stopped by thread p's pick, with a last record
abbrev pub stopped : Setting → EngineState → ℕ → Entry → Stop → ℕ → Played
stopped g m p x e i =
    record {
      outcome = end_of e i g (tally_put m.tally x) m.heads m.cells m.objects m.places;
      area = log_put m.log m.tally.records p x;
    }

-- the heads with a new thread's, which only a fork makes
abbrev pub with_forked : Bool → List Head → ℕ → Head → List Head
with_forked forks l q y = cond forks (set l q y) l

-- the state after a pick that was passed over, and after one that moved
abbrev pub stayed : EngineState → Stack → EngineState
stayed m k =
    record { heads = m.heads; cells = m.cells; objects = m.objects; places = m.places; stack = k; every = m.every; tally = m.tally; log = m.log }

abbrev pub after : EngineState → ℕ → Move → Stack → EngineState
after m p v k =
    record {
      heads = set (with_forked v.forks m.heads (m.tally.counts.threads % 9) v.forked) p v.mover;
      cells = set m.cells (cell_number (head_at m.heads p).ready) v.cell;
      objects = set m.objects (m.tally.counts.objects % 33) v.object;
      places = after_of m.places (head_at m.heads p).ready p;
      stack = k;
      every = m.every;
      tally = tally_moved (tally_put m.tally (shown_entry m.every v.entry)) v.counts;
      log = log_put m.log m.tally.records p (shown_entry m.every v.entry);
    }

-- the pick of thread p; an absent thread's is passed over
abbrev pub picked_by : List ℕ → List ℕ → Setting → EngineState → ℕ → Picked
picked_by ws rs g m p = pick_of ws rs g (met_by m.tally.counts m.heads m.cells m.objects m.places p) m.stack

unfoldable pub turn_by : List ℕ → List ℕ → Setting → EngineState → ℕ → Picked
turn_by ws rs g m p = cond (leb m.tally.counts.threads p) (picked m.stack answer.Passed) (picked_by ws rs g m p)

abbrev pub on_answer : PickAnswer → Played → (Move → Played) → (Stop → Entry → Played) → Played
on_answer answer.Passed pass move halt = pass
on_answer (answer.Moved v) pass move halt = move v
on_answer (answer.Stopped e x) pass move halt = halt e x

unfoldable pub play_of : List ℕ → List ℕ → Setting → EngineState → List ℕ → ℕ → Played
play_of ws rs g m [] i = record { outcome = end_of stop.End i g m.tally m.heads m.cells m.objects m.places; area = m.log }
play_of ws rs g m (p ∷ ps) i =
    on_answer (turn_by ws rs g m (p % 8)).answer
    (play_of ws rs g (stayed m (turn_by ws rs g m (p % 8)).stack) ps (i + 1))
    (λ v. play_of ws rs g (after m (p % 8) v (turn_by ws rs g m (p % 8)).stack) ps (i + 1))
    (λ e x. stopped g m (p % 8) x e i)

-- ---- before the last pick

-- the picks before the last that a run met: where it stopped, all that it dealt with
abbrev pub picks_before : ℕ → List ℕ → List ℕ
picks_before dealt ps = take (min dealt (length ps - 1)) ps

-- the counts before that pick are those of their run
pub record CountedBefore (ws rs : List ℕ) (g : Setting) (m : EngineState) (ps : List ℕ) (r : Ran) : Type 0 where
  pub moves : r.before.moves ≡ (play_of ws rs g m (picks_before r.outcome.picks ps) 0).outcome.moves
  pub records : r.before.records ≡ (play_of ws rs g m (picks_before r.outcome.picks ps) 0).outcome.records

-- ---- about to call main

abbrev pub head_of : ℕ → Head
head_of root = record { ready = ready_of redex.Run root 0 0 0; depth = 0; object = 0; keys = zero_set; learnt = 0 }

abbrev pub cell_first : Cell
cell_first = cell_of 0 0 zero_set

-- with a record for every move, or for those that have one
unfoldable pub start_of : Bool → List ℕ → List ℕ → EngineState
start_of every rs l =
    record {
      heads = set (replicate 16 no_head) 0 (head_of (get_or rs 0 0));
      cells = replicate 1024 cell_first;
      objects = replicate 33 no_object;
      places = replicate 8 0;
      stack = replicate 891 0;
      every = every;
      tally = tally_first;
      log = l;
    }
