-- One pick: what it meets, and what it leaves. The machine that the code runs; no reader of the entries' promises needs it. Assumes nothing.
use Rattle.std.specs.Prelude.{ℕ, ◌+◌, ◌*◌, ◌%◌, Bool, true, false, cond, List}
use Rattle.run_keys.specs.declared.KeySet.{KeySet}
use Rattle.run_keys.specs.Inner.KeySet.{empty_set}
use Rattle.log_records.specs.Record.{Kind, kind_number}
use Rattle.run_frames.specs.Inner.RedexKinds.{RedexKind as redex, is_redex}
use Rattle.run_frames.specs.declared.refocusing.Ready.{Ready}
use Rattle.run_frames.specs.declared.refocusing.Refocusing.{Refocusing}
use Rattle.run_frames.specs.Inner.Going.{ready_of, go_run, go_full}
use Rattle.run_refocusing.specs.declared.Refocused.{Refocused}
use Rattle.run_refocusing.specs.declared.Way.{Way}
use Rattle.run_refocusing.specs.Inner.Refocusing.{Stack, Ended, Ends, refocus_of, no_refocusing, refocus_from, after_of}
pub use Rattle.run_refocusing.specs.Inner.Refocusing.{full_by, full_of}
use Rattle.run_outcome.specs.declared.NoRoom.{NoRoom}
use Rattle.run_outcome.specs.declared.NoRoom.TheVariants as room
use Rattle.run_outcome.specs.declared.Stop.TheVariants as stop
use Rattle.run_state.specs.declared.Setting.{Setting}
use Rattle.run_state.specs.declared.Head.{Head}
use Rattle.run_state.specs.declared.Counts.{Counts}
use Rattle.run_state.specs.declared.Entry.{Entry}
use Rattle.run_state.specs.declared.acted.Act.{Act}
use Rattle.run_state.specs.declared.acted.Act.TheVariants as act
use Rattle.run_state.specs.declared.acted.Acted.{Acted}
use Rattle.run_state.specs.Inner.Acted.{entry_of, no_entry}
use Rattle.run_look.specs.declared.Sight.{Sight}
use Rattle.run_look.specs.declared.Sight.TheVariants as sight
use Rattle.run_look.specs.Inner.Look.{look_of}
use Rattle.run_act.specs.Inner.Act.{goes_on_by, act_pure, act_of}
use Rattle.run_pick.specs.declared.Met.{Met}
use Rattle.run_pick.specs.declared.Begun.{Begun}
use Rattle.run_pick.specs.declared.Begun.TheVariants as begun
use Rattle.run_pick.specs.Inner.Answer.{Move, PickAnswer, PickAnswer as answer}

-- a pick's answer, with the frames that it leaves
pub record Picked : Type 0 where
  pub stack : Stack
  pub answer : PickAnswer

abbrev pub picked : Stack → PickAnswer → Picked
picked k z = record { stack = k; answer = z }

-- ---- the parts of an answer

abbrev pub no_room : NoRoom → PickAnswer
no_room r = answer.Stopped (stop.NoRoom r) no_entry

-- the record of an access that lacks its key, by its redex p
unfoldable pub lack_by : ℕ → Ready → Entry
lack_by p r = cond (is_redex redex.Write p) (entry_of (kind_number Kind.lacks_write) r.first r.second r.third)
    (entry_of (kind_number Kind.lacks_read) r.first r.second 0)

abbrev pub lack_entry : Ready → Entry
lack_entry r = lack_by r.redex r

abbrev pub forks_of : Head → Bool
forks_of h = is_redex redex.Fork h.ready.redex

-- a thread where its refocusing ended
abbrev pub refocused_head : Refocused → ℕ → KeySet → ℕ → Head
refocused_head l o ks n = record { ready = l.ready; depth = l.depth; object = o; keys = ks; learnt = n }

abbrev pub no_head : Head
no_head = record { ready = ready_of redex.Done 0 0 0 0; depth = 0; object = 0; keys = empty_set; learnt = 0 }

-- the mover after its move, its total below 256 before it; the thread that a fork makes, whose object is the next one and whose keys are its maker's
abbrev pub mover_of : Met → Acted → Refocused → Head
mover_of x a l = refocused_head l x.head.object a.keys (x.head.learnt % 256 + a.new)

abbrev pub forked_of : Met → Refocused → Head
forked_of x l = refocused_head l x.counts.objects x.head.keys 0

abbrev pub move_of : Met → Acted → Refocused → Head → Bool → Move
move_of x a l y forks = record { mover = mover_of x a l; forked = y; cell = a.cell; object = a.object; counts = a.counts; entry = a.entry; forks = forks }

-- ---- the refocusings

-- of the mover
abbrev pub refocus_mover : List ℕ → List ℕ → Met → Acted → Stack → Ended
refocus_mover ws rs x a k = refocus_of 2100 ws rs (x.thread * 33) k a.go (x.head.depth % 33)

-- of a forked thread
abbrev pub forked_go : Head → Refocusing
forked_go h = go_run h.ready.first h.ready.environment

abbrev pub refocus_forked : List ℕ → List ℕ → Met → Stack → Ended
refocus_forked ws rs x k = refocus_of 2100 ws rs (x.counts.threads % 9 * 33) k (forked_go x.head) 0

-- from where the two refocus
abbrev pub mover_way : ℕ → Head → Refocusing → Way
mover_way p h g = record { base = p * 33; depth = h.depth % 33; go = g }

abbrev pub forked_way : Counts → Head → Way
forked_way n h = record { base = n.threads % 9 * 33; depth = 0; go = forked_go h }

-- ---- the answer

-- to a fork whose mover has refocused at l, where its forked thread refocused
unfoldable pub start_by : Met → Acted → Refocused → Ended → Picked
start_by x a l y = cond (full_of y.refocused) (picked y.stack (no_room room.Depth))
    (picked y.stack (answer.Moved (move_of x a l (forked_of x y.refocused) true)))

-- to a move that has room for what it makes, where its mover refocused
unfoldable pub refocus_by : List ℕ → List ℕ → Met → Acted → Ended → Picked
refocus_by ws rs x a l =
    cond (full_of l.refocused) (picked l.stack (no_room room.Depth))
    (cond (forks_of x.head) (start_by x a l.refocused (refocus_forked ws rs x l.stack))
    (picked l.stack (answer.Moved (move_of x a l.refocused no_head false))))

abbrev pub make_by : List ℕ → List ℕ → Met → Act → Stack → Picked
make_by ws rs x (act.Done a) k = refocus_by ws rs x a (refocus_mover ws rs x a k)
make_by ws rs x (act.NoRoom r) k = picked k (no_room r)

-- what the move of a ready thread does
abbrev pub act_met : Setting → Met → Act
act_met g x = act_of g x.counts x.head x.cell x.object x.other

abbrev pub pick_by : List ℕ → List ℕ → Setting → Met → Sight → Stack → Picked
pick_by ws rs g x sight.Ready k = make_by ws rs x (act_met g x) k
pick_by ws rs g x sight.Lacking k = picked k (answer.Stopped stop.Race (lack_entry x.head.ready))
pick_by ws rs g x (sight.Blocked b) k = picked k answer.Passed

-- what a pick meets
abbrev pub look_met : Setting → Met → Sight
look_met g x = look_of g x.head x.cell x.object x.other.ready.redex x.place

unfoldable pub pick_of : List ℕ → List ℕ → Setting → Met → Stack → Picked
pick_of ws rs g x k = pick_by ws rs g x (look_met g x) k

-- ---- the same in the code's steps

-- how a pick begins: a stop for want of room; the move of a ready thread, by what it does; by what it meets
abbrev pub stopped_for : NoRoom → Begun
stopped_for r = begun.Stopped (stop.NoRoom r) no_entry

abbrev pub begun_by : Act → Begun
begun_by (act.Done a) = begun.Acted a
begun_by (act.NoRoom r) = stopped_for r

abbrev pub begin_by : Setting → Met → Sight → Begun
begin_by g x sight.Ready = begun_by (act_met g x)
begin_by g x sight.Lacking = begun.Stopped stop.Race (lack_entry x.head.ready)
begin_by g x (sight.Blocked b) = begun.Passed

unfoldable pub begin_of : Setting → Met → Begun
begin_of g x = cond (goes_on_by x.head.ready.redex) (begun.Went (act_pure x.head)) (begin_by g x (look_met g x))

-- from where it refocuses
abbrev pub go_of : Begun → Refocusing
go_of begun.Passed = go_full
go_of (begun.Stopped e y) = go_full
go_of (begun.Went g) = g
go_of (begun.Acted a) = a.go

-- the refocusings of a move of thread p, whose head is h
abbrev pub refocusings_from : List ℕ → List ℕ → Counts → Head → ℕ → Refocusing → Stack → Ends
refocusings_from ws rs n h p g k = after_of ws rs (forks_of h) (forked_way n h) no_refocusing (refocus_from ws rs (mover_way p h g) k)
