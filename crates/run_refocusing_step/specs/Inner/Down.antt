-- The way down, and one step of refocusing: the machine that the code runs; no reader of the entries' promises needs it. Assumes nothing.
use Rattle.std.specs.Prelude.{ℕ, ◌+◌, ◌-◌, ◌*◌, ◌%◌, cond, List, eqb, ltb, get_or}
use Rattle.run_frames.specs.declared.frame.Kind.TheVariants as kind
use Rattle.run_frames.specs.declared.frame.Frame.{Frame}
use Rattle.run_frames.specs.Inner.RedexKinds.{RedexKind as redex}
use Rattle.run_frames.specs.declared.refocusing.Stage.{Stage}
use Rattle.run_frames.specs.declared.refocusing.Stage.TheVariants as stage
use Rattle.run_frames.specs.declared.refocusing.Refocusing.{Refocusing}
use Rattle.run_refocusing_step.specs.declared.Turn.{Turn}
use Rattle.run_term_words.specs.Inner.Slots.{slot_of}
use Rattle.plan_packed.specs.Inner.Operands.{tag_of, first_of, second_of, third_of, slot_bits, field_bits, procedure_bits, list_bits, let_first, let_second, write_second}
use Rattle.plan_packed.specs.Inner.Operands.{mask_bits}
use Rattle.run_term_words.specs.Inner.Words.{word_at, value_of, truth_of}
use Rattle.run_frames.specs.Inner.Frames.{framed, let_frame, rest_of, unpack_of}
use Rattle.run_frames.specs.Inner.Going.{ready_of, no_rule, go_at, go_run, go_run_condition, go_want, go_want_condition, go_list, go_value, go_truth, go_full, feed_of}
use Rattle.run_frames.specs.Inner.Going.{feed_condition_of}

abbrev pub stay_of : Refocusing → ℕ → Turn
stay_of g d = record { go = g; depth = d; at = d; frame = framed kind.Read 0 0 0 0 }

unfoldable pub push_of : Refocusing → ℕ → Frame → Turn
push_of g d f = cond (ltb d 32) (record { go = g; depth = d + 1; at = d; frame = f }) (stay_of go_full d)

unfoldable pub want_by : ℕ → Frame → ℕ → ℕ → Turn
unfolding push_of
want_by v f i d = cond (ltb v 32) (stay_of (feed_of f v) d) (push_of (go_run i f.environment) d f)

unfoldable pub want_of : List ℕ → Frame → ℕ → ℕ → Turn
unfolding want_by
want_of ws f i d = want_by (value_of ws f.environment i) f i d

unfoldable pub want_condition_by : ℕ → Frame → ℕ → ℕ → Turn
unfolding push_of
want_condition_by b f i d = cond (ltb b 2) (stay_of (feed_condition_of f b) d) (push_of (go_run_condition i f.environment) d f)

unfoldable pub want_condition_of : List ℕ → Frame → ℕ → ℕ → Turn
unfolding want_condition_by
want_condition_of ws f i d = want_condition_by (truth_of ws i) f i d

unfoldable pub root_at : List ℕ → ℕ → ℕ
root_at rs m = get_or rs (m % 32) 0

-- the call of a frame's procedure with these arguments
abbrev pub call_of : List ℕ → Frame → ℕ → Refocusing
call_of rs f arguments = go_at (ready_of redex.Run (root_at rs f.member) 0 0 arguments)

unfoldable pub list_by : List ℕ → ℕ → Frame → Refocusing
list_by rs w f = cond (eqb (tag_of w) 16) (go_want (rest_of f (second_of w)) (first_of w)) (call_of rs f f.arguments)

unfoldable pub list_of : List ℕ → List ℕ → Frame → Refocusing
unfolding list_by
list_of ws rs f = list_by rs (word_at ws f.first) f

-- wait, notify and notify all, by their tag k
unfoldable pub signal_by : ℕ → ℕ → ℕ → Refocusing
signal_by k w environment =
    cond (eqb k 18) (go_want (framed kind.Signal 0 0 0 environment) (first_of w))
    (cond (eqb k 19) (go_want (framed kind.Signal 0 0 1 environment) (first_of w))
    (cond (eqb k 20) (go_want (framed kind.Signal 0 0 2 environment) (first_of w)) (go_at no_rule)))

unfoldable pub signal_of : ℕ → ℕ → Refocusing
unfolding signal_by
signal_of w environment = signal_by (tag_of w) w environment

-- an expression whose operands need no look, by its tag k, or a signal
unfoldable pub simple_by : ℕ → ℕ → ℕ → Refocusing
unfolding signal_of
simple_by k w environment =
    cond (eqb k 2) (go_at (ready_of redex.New (mask_bits w) 0 0 0))
    (cond (eqb k 7) (go_at (ready_of redex.While (first_of w) (second_of w) 0 environment))
    (cond (eqb k 9) (go_at (ready_of redex.Fork (first_of w) 0 0 environment))
    (cond (eqb k 0) (go_value 0)
    (cond (eqb k 1) (go_value (slot_of environment (slot_bits w))) (signal_of w environment)))))

unfoldable pub simple_of : ℕ → ℕ → Refocusing
unfolding simple_by
simple_of w environment = simple_by (tag_of w) w environment

-- an expression, by its tag k
unfoldable pub open_expression_by : ℕ → ℕ → ℕ → Refocusing
unfolding simple_of
open_expression_by k w environment =
    cond (eqb k 3) (go_want (framed kind.Read 0 0 (field_bits w) environment) (first_of w))
    (cond (eqb k 4) (go_want (framed kind.Write1 (write_second w) 0 (field_bits w) environment) (first_of w))
    (cond (eqb k 5) (go_want (let_frame (slot_bits w) (let_second w) environment) (let_first w))
    (cond (eqb k 6) (go_want_condition (framed kind.If (second_of w) (third_of w) 0 environment) (first_of w))
    (cond (eqb k 8) (go_list (framed kind.Call (list_bits w) 0 (procedure_bits w) environment))
    (cond (eqb k 10) (go_want (framed kind.Join 0 0 0 environment) (first_of w))
    (cond (eqb k 11) (go_want (framed kind.Synch (second_of w) 0 0 environment) (first_of w)) (simple_of w environment)))))))

unfoldable pub open_expression_of : ℕ → ℕ → Refocusing
unfolding open_expression_by
open_expression_of w environment = open_expression_by (tag_of w) w environment

-- a condition, by its tag k
unfoldable pub open_condition_by : ℕ → ℕ → ℕ → Refocusing
open_condition_by k w environment =
    cond (eqb k 12) (go_truth 1)
    (cond (eqb k 13) (go_want_condition (framed kind.Not 0 0 0 environment) (first_of w))
    (cond (eqb k 14) (go_want_condition (framed kind.And (second_of w) 0 0 environment) (first_of w))
    (cond (eqb k 15) (go_want (framed kind.Equal1 (second_of w) 0 0 environment) (first_of w)) (go_at no_rule))))

unfoldable pub open_condition_of : ℕ → ℕ → Refocusing
unfolding open_condition_by
open_condition_of w environment = open_condition_by (tag_of w) w environment

-- ---- a way down, in three parts

abbrev pub opened_by : Stage → List ℕ → Refocusing → Refocusing
opened_by stage.Full ws g = g
opened_by stage.At ws g = g
opened_by stage.Run ws g = open_expression_of (word_at ws g.operand) g.frame.environment
opened_by stage.RunCondition ws g = open_condition_of (word_at ws g.operand) g.frame.environment
opened_by stage.Want ws g = g
opened_by stage.WantCondition ws g = g
opened_by stage.List ws g = g
opened_by stage.Value ws g = g
opened_by stage.Truth ws g = g

abbrev pub opened_of : List ℕ → Refocusing → Refocusing
opened_of ws g = opened_by g.stage ws g

abbrev pub listed_by : Stage → List ℕ → List ℕ → Refocusing → Refocusing
listed_by stage.Full ws rs g = g
listed_by stage.At ws rs g = g
listed_by stage.Run ws rs g = g
listed_by stage.RunCondition ws rs g = g
listed_by stage.Want ws rs g = g
listed_by stage.WantCondition ws rs g = g
listed_by stage.List ws rs g = list_of ws rs g.frame
listed_by stage.Value ws rs g = g
listed_by stage.Truth ws rs g = g

abbrev pub listed_of : List ℕ → List ℕ → Refocusing → Refocusing
listed_of ws rs g = listed_by g.stage ws rs g

abbrev pub wanted_by : Stage → List ℕ → Refocusing → ℕ → Turn
wanted_by stage.Full ws g d = stay_of g d
wanted_by stage.At ws g d = stay_of g d
wanted_by stage.Run ws g d = stay_of g d
wanted_by stage.RunCondition ws g d = stay_of g d
wanted_by stage.Want ws g d = want_of ws g.frame g.operand d
wanted_by stage.WantCondition ws g d = want_condition_of ws g.frame g.operand d
wanted_by stage.List ws g d = stay_of g d
wanted_by stage.Value ws g d = stay_of g d
wanted_by stage.Truth ws g d = stay_of g d

abbrev pub wanted_of : List ℕ → Refocusing → ℕ → Turn
wanted_of ws g d = wanted_by g.stage ws g d

abbrev pub down_of : List ℕ → List ℕ → Refocusing → ℕ → Turn
down_of ws rs g d = wanted_of ws (listed_of ws rs (opened_of ws g)) d

-- ---- a value goes into the top frame

unfoldable pub back_of : Frame → ℕ → ℕ → Turn
back_of f v d = cond (eqb d 0) (stay_of (go_at (ready_of redex.Done v 0 0 0)) d) (stay_of (feed_of f v) (d - 1))

unfoldable pub back_condition_of : Frame → ℕ → ℕ → Turn
back_condition_of f b d = cond (eqb d 0) (stay_of (go_at no_rule) d) (stay_of (feed_condition_of f b) (d - 1))

-- ---- a step

-- the frames of all threads, three numbers to a frame
abbrev pub frame_at : List ℕ → ℕ → Frame
frame_at k i = unpack_of (get_or k (i * 3) 0) (get_or k (i * 3 + 1) 0) (get_or k (i * 3 + 2) 0)

-- the place of the top one, of a thread whose places start at base
abbrev pub top_of : ℕ → ℕ → ℕ
top_of base d = cond (eqb d 0) base (base + (d - 1))

abbrev pub step_by : Stage → List ℕ → List ℕ → Refocusing → ℕ → Frame → Turn
step_by stage.Full ws rs g d f = down_of ws rs g d
step_by stage.At ws rs g d f = down_of ws rs g d
step_by stage.Run ws rs g d f = down_of ws rs g d
step_by stage.RunCondition ws rs g d f = down_of ws rs g d
step_by stage.Want ws rs g d f = down_of ws rs g d
step_by stage.WantCondition ws rs g d f = down_of ws rs g d
step_by stage.List ws rs g d f = down_of ws rs g d
step_by stage.Value ws rs g d f = back_of f g.operand d
step_by stage.Truth ws rs g d f = back_condition_of f g.operand d

unfoldable pub step_of : List ℕ → List ℕ → Refocusing → ℕ → Frame → Turn
step_of ws rs g d f = step_by g.stage ws rs g d f
