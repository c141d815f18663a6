-- Refocusing: steps until the redex that moves next is found. The machine that the code runs; no reader of the entries' promises needs it. Assumes nothing.
use Rattle.std.specs.Prelude.{ℕ, zero, suc, ◌+◌, ◌*◌, Bool, true, false, cond, List, ltb, set}
use Rattle.run_frames.specs.declared.frame.Frame.{Frame}
use Rattle.run_frames.specs.declared.refocusing.Stage.{Stage}
use Rattle.run_frames.specs.declared.refocusing.Stage.TheVariants as stage
use Rattle.run_frames.specs.declared.refocusing.Refocusing.{Refocusing}
use Rattle.run_refocusing_step.specs.declared.Turn.{Turn}
use Rattle.run_refocusing.specs.declared.Refocused.{Refocused}
use Rattle.run_refocusing.specs.declared.Way.{Way}
use Rattle.run_refocusing.specs.declared.Refocusings.{Refocusings}
use Rattle.run_frames.specs.Inner.Frames.{pack_of}
use Rattle.run_frames.specs.Inner.Going.{ready_in, go_full}
use Rattle.run_refocusing_step.specs.Inner.Down.{frame_at, top_of, step_of}

abbrev pub live_by : Stage → Bool
live_by stage.Full = false
live_by stage.At = false
live_by stage.Run = true
live_by stage.RunCondition = true
live_by stage.Want = true
live_by stage.WantCondition = true
live_by stage.List = true
live_by stage.Value = true
live_by stage.Truth = true

abbrev pub live_of : Refocusing → Bool
live_of g = live_by g.stage

-- the frames of all threads, three numbers to a frame
abbrev pub Stack : Type 0
Stack = List ℕ

pub record Ended : Type 0 where
  pub stack : Stack
  pub refocused : Refocused

abbrev pub refocused_of : Refocusing → ℕ → Refocused
refocused_of g d = record { stage = g.stage; ready = ready_in g; depth = d }

-- none before the first
abbrev pub no_refocusing : Refocused
no_refocusing = refocused_of go_full 0

abbrev pub ended : Stack → Refocusing → ℕ → Ended
ended k g d = record { stack = k; refocused = refocused_of g d }

abbrev pub store_at : Stack → ℕ → Frame → Stack
store_at k i f = set (set (set k (i * 3) (pack_of f).top) (i * 3 + 1) (pack_of f).environment) (i * 3 + 2) (pack_of f).arguments

abbrev pub turn_at : List ℕ → List ℕ → ℕ → Stack → Refocusing → ℕ → Turn
turn_at ws rs base k g d = step_of ws rs g d (frame_at k (top_of base d))

-- a step that goes deeper stores its frame
abbrev pub stored : Stack → ℕ → Turn → Stack
stored k base t = cond (ltb t.at t.depth) (store_at k (base + t.at) t.frame) k

-- at most n steps
unfoldable pub refocus_of : ℕ → List ℕ → List ℕ → ℕ → Stack → Refocusing → ℕ → Ended
refocus_of zero ws rs base k g d = ended k go_full d
refocus_of (suc n) ws rs base k g d =
    cond (live_of g)
    (refocus_of n ws rs base (stored k base (turn_at ws rs base k g d)) (turn_at ws rs base k g d).go (turn_at ws rs base k g d).depth)
    (ended k g d)

-- ---- a refocusing, and another after it

-- whether there was no room
abbrev pub full_by : Stage → Bool
full_by stage.Full = true
full_by stage.At = false
full_by stage.Run = false
full_by stage.RunCondition = false
full_by stage.Want = false
full_by stage.WantCondition = false
full_by stage.List = false
full_by stage.Value = false
full_by stage.Truth = false

abbrev pub full_of : Refocused → Bool
full_of l = full_by l.stage

abbrev pub refocus_from : List ℕ → List ℕ → Way → Stack → Ended
refocus_from ws rs w k = refocus_of 2100 ws rs w.base k w.go w.depth

abbrev pub refocusings_of : Refocused → Refocused → Refocusings
refocusings_of b l = record { before = b; last = l }

pub record Ends : Type 0 where
  pub stack : Stack
  pub refocusings : Refocusings

abbrev pub ends_at : Refocused → Ended → Ends
ends_at b e = record { stack = e.stack; refocusings = refocusings_of b e.refocused }

-- after a refocusing that ended at e, with b before it: another from w, where one more is to be done and there was room
unfoldable pub after_of : List ℕ → List ℕ → Bool → Way → Refocused → Ended → Ends
after_of ws rs more w b e = cond more (cond (full_of e.refocused) (ends_at b e) (ends_at e.refocused (refocus_from ws rs w e.stack))) (ends_at b e)
