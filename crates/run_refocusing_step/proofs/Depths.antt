-- A step leaves the depth and the place of its frame at most 32. Assumes nothing.
use mathlib.Core.Bool.{Bool, true, false, cond}
use mathlib.Core.List.{List}
use Prim.Native.Nat.{ℕ, ◌-◌, ◌≤◌, ◌<◌}
use native.Mathlib.Omega.{arith}
use native.Mathlib.Decide.{dec_lt}
use borrow.Author.Tests.{lt-ltb, le-ltb}
use lib.Dec.{eqb, ltb}
use Rattle.run_frames.specs.declared.frame.Frame.{Frame}
use Rattle.run_frames.specs.declared.refocusing.Stage.{Stage}
use Rattle.run_frames.specs.declared.refocusing.Stage.TheVariants as stage
use Rattle.run_frames.specs.declared.refocusing.Refocusing.{Refocusing}
use Rattle.run_refocusing_step.specs.declared.Turn.{Turn}
use Rattle.run_term_words.specs.Inner.Words.{value_of, truth_of}
use Rattle.run_frames.specs.Inner.Going.{go_run, go_run_condition}
use Rattle.run_refocusing_step.specs.Inner.Down.{push_of, want_by, want_of, want_condition_by, want_condition_of, opened_of, listed_of, wanted_by, down_of, back_of}
use Rattle.run_refocusing_step.specs.Inner.Down.{back_condition_of, step_by, step_of}

abbrev pub Within : Turn → Type 0
Within m = (m.depth ≤ 32) × (m.at ≤ 32)

either_in : (b : Bool) (x y : Turn) → Within x → Within y → Within (cond b x y)
either_in true x y h k = h
either_in false x y h k = k

push_in : (g : Refocusing) (d : ℕ) (f : Frame) → d ≤ 32 → Within (push_of g d f)
unfolding push_of
push_in g d f h = by (dec_lt d 32)
  where
    by : Dec (d < 32) → Within (push_of g d f)
    by (yes l) = rw (lt-ltb d 32 l) (omega arith, h)
    by (no l) = let k : 32 ≤ d = omega arith in rw (le-ltb d 32 k) (h, h)

want_in : (ws : List ℕ) (f : Frame) (i d : ℕ) → d ≤ 32 → Within (want_of ws f i d)
unfolding want_of want_by
want_in ws f i d h = either_in (ltb (value_of ws f.environment i) 32) _ _ (h, h) (push_in (go_run i f.environment) d f h)

want_condition_in : (ws : List ℕ) (f : Frame) (i d : ℕ) → d ≤ 32 → Within (want_condition_of ws f i d)
unfolding want_condition_of want_condition_by
want_condition_in ws f i d h = either_in (ltb (truth_of ws i) 2) _ _ (h, h) (push_in (go_run_condition i f.environment) d f h)

wanted_in : (s : Stage) (ws : List ℕ) (g : Refocusing) (d : ℕ) → d ≤ 32 → Within (wanted_by s ws g d)
wanted_in stage.Full ws g d h = (h, h)
wanted_in stage.At ws g d h = (h, h)
wanted_in stage.Run ws g d h = (h, h)
wanted_in stage.RunCondition ws g d h = (h, h)
wanted_in stage.Want ws g d h = want_in ws g.frame g.operand d h
wanted_in stage.WantCondition ws g d h = want_condition_in ws g.frame g.operand d h
wanted_in stage.List ws g d h = (h, h)
wanted_in stage.Value ws g d h = (h, h)
wanted_in stage.Truth ws g d h = (h, h)

down_in : (ws rs : List ℕ) (g : Refocusing) (d : ℕ) → d ≤ 32 → Within (down_of ws rs g d)
down_in ws rs g d h = wanted_in (listed_of ws rs (opened_of ws g)).stage ws (listed_of ws rs (opened_of ws g)) d h

less : (d : ℕ) → d ≤ 32 → d - 1 ≤ 32
less d h = omega arith

back_in : (f : Frame) (v d : ℕ) → d ≤ 32 → Within (back_of f v d)
unfolding back_of
back_in f v d h = either_in (eqb d 0) _ _ (h, h) (less d h, less d h)

back_condition_in : (f : Frame) (b d : ℕ) → d ≤ 32 → Within (back_condition_of f b d)
unfolding back_condition_of
back_condition_in f b d h = either_in (eqb d 0) _ _ (h, h) (less d h, less d h)

step_by_in : (s : Stage) (ws rs : List ℕ) (g : Refocusing) (d : ℕ) (f : Frame) → d ≤ 32 → Within (step_by s ws rs g d f)
step_by_in stage.Full ws rs g d f h = down_in ws rs g d h
step_by_in stage.At ws rs g d f h = down_in ws rs g d h
step_by_in stage.Run ws rs g d f h = down_in ws rs g d h
step_by_in stage.RunCondition ws rs g d f h = down_in ws rs g d h
step_by_in stage.Want ws rs g d f h = down_in ws rs g d h
step_by_in stage.WantCondition ws rs g d f h = down_in ws rs g d h
step_by_in stage.List ws rs g d f h = down_in ws rs g d h
step_by_in stage.Value ws rs g d f h = back_in f g.operand d h
step_by_in stage.Truth ws rs g d f h = back_condition_in f g.operand d h

pub step_in : (ws rs : List ℕ) (g : Refocusing) (d : ℕ) (f : Frame) → d ≤ 32 → Within (step_of ws rs g d f)
unfolding step_of
step_in ws rs g d f h = step_by_in g.stage ws rs g d f h
