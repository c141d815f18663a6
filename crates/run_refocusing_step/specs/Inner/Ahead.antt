-- The values that come next in a call's list, a step of refocusing to each: the machine that the code runs; no reader of the entries' promises needs it.
-- Assumes
-- nothing.
use Rattle.std.specs.Prelude.{ℕ, zero, suc, ◌+◌, ◌-◌, ◌*◌, ◌^◌, ◌≤◌, ◌<◌, ◌≡◌, Bool, true, cond, List, eqb, ltb}
use Rattle.run_frames.specs.declared.frame.Frame.{Frame}
use Rattle.run_frames.specs.declared.refocusing.Stage.{Stage}
use Rattle.run_frames.specs.declared.refocusing.Stage.TheVariants as stage
use Rattle.run_frames.specs.declared.refocusing.Refocusing.{Refocusing}
use Rattle.run_frames.specs.Inner.Frames.{collected, rest_of}
use Rattle.run_frames.specs.Inner.Going.{go_list}
use Rattle.plan_packed.specs.Inner.Operands.{tag_of, first_of, second_of}
use Rattle.run_term_words.specs.Inner.Words.{word_at, value_of}
use Rattle.run_refocusing_step.specs.declared.Gathered.{Gathered}
use Rattle.run_refocusing_step.specs.declared.Through.{Through}
use Rattle.run_refocusing_step.specs.declared.Stepped.{Stepped}
use Rattle.run_refocusing_step.specs.Inner.Down.{list_of, opened_of, step_of}

-- the value that comes next in a list whose word is w, 32 where the list is over or its next operand needs a move
unfoldable pub next_of : List ℕ → ℕ → ℕ → ℕ
next_of ws environment w = cond (eqb (tag_of w) 16) (value_of ws environment (first_of w)) 32

abbrev pub next_in : List ℕ → Frame → ℕ
next_in ws f = next_of ws f.environment (word_at ws f.first)

-- a call's frame with that value
abbrev pub taken_of : List ℕ → Frame → Frame
taken_of ws f = collected (rest_of f (second_of (word_at ws f.first))) (next_in ws f)

-- a call's frame with the values that come next, at most n of them, and the steps that are left of n + 1
unfoldable pub gathered_of : ℕ → List ℕ → Frame → Gathered
gathered_of zero ws f = record { left = 1; frame = f }
gathered_of (suc n) ws f = cond (ltb (next_in ws f) 32) (gathered_of n ws (taken_of ws f)) (record { left = suc n + 1; frame = f })

-- the frame where refocusing stands at a stage, with n steps left; of a call's list, with the values that come next
abbrev pub ahead_by : Stage → ℕ → List ℕ → Refocusing → Gathered
ahead_by stage.Full n ws g = record { left = n; frame = g.frame }
ahead_by stage.At n ws g = record { left = n; frame = g.frame }
ahead_by stage.Run n ws g = record { left = n; frame = g.frame }
ahead_by stage.RunCondition n ws g = record { left = n; frame = g.frame }
ahead_by stage.Want n ws g = record { left = n; frame = g.frame }
ahead_by stage.WantCondition n ws g = record { left = n; frame = g.frame }
ahead_by stage.List n ws g = gathered_of (n - 1) ws g.frame
ahead_by stage.Value n ws g = record { left = n; frame = g.frame }
ahead_by stage.Truth n ws g = record { left = n; frame = g.frame }

abbrev pub ahead_of : ℕ → List ℕ → Refocusing → Gathered
ahead_of n ws g = ahead_by g.stage n ws g

-- a call's list is gone into with the frame f
abbrev pub into_by : Stage → List ℕ → List ℕ → Refocusing → Frame → Refocusing
into_by stage.Full ws rs g f = g
into_by stage.At ws rs g f = g
into_by stage.Run ws rs g f = g
into_by stage.RunCondition ws rs g f = g
into_by stage.Want ws rs g f = g
into_by stage.WantCondition ws rs g f = g
into_by stage.List ws rs g f = list_of ws rs f
into_by stage.Value ws rs g f = g
into_by stage.Truth ws rs g f = g

abbrev pub into_of : List ℕ → List ℕ → Refocusing → Frame → Refocusing
into_of ws rs g f = into_by g.stage ws rs g f

-- the same, and how many steps are left
abbrev pub called_of : List ℕ → List ℕ → ℕ → Frame → Through
called_of ws rs n f = record { left = (gathered_of (n - 1) ws f).left; go = list_of ws rs (gathered_of (n - 1) ws f).frame }

abbrev pub going_of : List ℕ → List ℕ → ℕ → Refocusing → Through
going_of ws rs n g = record { left = (ahead_of n ws g).left; go = into_of ws rs g (ahead_of n ws g).frame }

-- k values have room above those of a frame, and a step is left of n after one to each
abbrev pub Fits : Frame → ℕ → ℕ → Bool → Type 0
Fits f k n r = r ≡ true → (k < n) × (f.count + k ≤ 8) × (f.arguments < 2 ^ (f.count * 5))

-- where refocusing stands once those values are taken, by the stage of its opened term, with the frame f that has them
abbrev pub along_by : Stage → Refocusing → Frame → Refocusing
along_by stage.Full g f = g
along_by stage.At g f = g
along_by stage.Run g f = g
along_by stage.RunCondition g f = g
along_by stage.Want g f = g
along_by stage.WantCondition g f = g
along_by stage.List g f = go_list f
along_by stage.Value g f = g
along_by stage.Truth g f = g

abbrev pub along_of : ℕ → List ℕ → Refocusing → Refocusing
along_of n ws g = along_by (opened_of ws g).stage g (ahead_of n ws (opened_of ws g)).frame

-- those values, and one step from there
abbrev pub stepped_of : List ℕ → List ℕ → ℕ → Refocusing → ℕ → Frame → Stepped
stepped_of ws rs n g d f = record { left = (ahead_of n ws (opened_of ws g)).left; turn = step_of ws rs (along_of n ws g) d f }
