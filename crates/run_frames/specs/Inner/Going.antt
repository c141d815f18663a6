-- Where refocusing stands, and what a frame does with the value of its operand: the machine that the code runs; no reader of the entries' promises
-- needs it. Assumes nothing.
use Rattle.std.specs.Prelude.{ℕ, cond, eqb}
use Rattle.run_term_words.specs.Inner.Slots.{bind_of}
use Rattle.run_frames.specs.declared.frame.Kind.{Kind}
use Rattle.run_frames.specs.declared.frame.Kind.TheVariants as kind
use Rattle.run_frames.specs.declared.frame.Frame.{Frame}
use Rattle.run_frames.specs.Inner.RedexKinds.{RedexKind, number_of}
use Rattle.run_frames.specs.Inner.RedexKinds.{RedexKind as redex}
use Rattle.run_frames.specs.declared.refocusing.Ready.{Ready}
use Rattle.run_frames.specs.declared.refocusing.Stage.{Stage}
use Rattle.run_frames.specs.declared.refocusing.Stage.TheVariants as stage
use Rattle.run_frames.specs.declared.refocusing.Refocusing.{Refocusing}
use Rattle.run_frames.specs.Inner.Frames.{framed, second_frame, collected}

abbrev pub ready_at : ℕ → ℕ → ℕ → ℕ → ℕ → Ready
ready_at p a b c environment = record { redex = p; first = a; second = b; third = c; environment = environment }

abbrev pub ready_of : RedexKind → ℕ → ℕ → ℕ → ℕ → Ready
ready_of p a b c environment = ready_at (number_of p) a b c environment

abbrev pub no_rule : Ready
no_rule = ready_of redex.NoRule 0 0 0 0

abbrev pub go_of : Stage → Frame → ℕ → Refocusing
go_of s f i = record { stage = s; frame = f; operand = i }

abbrev pub go_at : Ready → Refocusing
go_at r = go_of stage.At
    (record { kind = kind.Read; first = r.first; second = r.second; member = r.redex; count = 0; environment = r.environment; arguments = r.third }) 0

-- the redex where refocusing has ended
abbrev pub ready_in : Refocusing → Ready
ready_in g = ready_at g.frame.member g.frame.first g.frame.second g.frame.arguments g.frame.environment

abbrev pub go_run : ℕ → ℕ → Refocusing
go_run t environment = go_of stage.Run (framed kind.Read 0 0 0 environment) t

abbrev pub go_run_condition : ℕ → ℕ → Refocusing
go_run_condition t environment = go_of stage.RunCondition (framed kind.Read 0 0 0 environment) t

abbrev pub go_want : Frame → ℕ → Refocusing
go_want f i = go_of stage.Want f i

abbrev pub go_want_condition : Frame → ℕ → Refocusing
go_want_condition f i = go_of stage.WantCondition f i

abbrev pub go_list : Frame → Refocusing
go_list f = go_of stage.List f 0

abbrev pub go_value : ℕ → Refocusing
go_value v = go_of stage.Value (framed kind.Read 0 0 0 0) v

abbrev pub go_truth : ℕ → Refocusing
go_truth b = go_of stage.Truth (framed kind.Read 0 0 0 0) b

abbrev pub go_full : Refocusing
go_full = go_of stage.Full (framed kind.Read 0 0 0 0) 0

abbrev pub same_of : ℕ → ℕ → ℕ
same_of v w = cond (eqb v w) 1 0

-- ---- a value goes into a frame

abbrev pub feed_by : Kind → Frame → ℕ → Refocusing
feed_by kind.Read f v = go_at (ready_of redex.Read v f.member 0 0)
feed_by kind.Write1 f v = go_want (second_frame kind.Write2 f v) f.first
feed_by kind.Write2 f v = go_at (ready_of redex.Write f.arguments f.member v 0)
feed_by kind.Call f v = go_list (collected f v)
feed_by kind.Let f v = go_at (ready_of redex.Run f.first 0 0 (bind_of f.environment f.count v))
feed_by kind.Synch f v = go_at (ready_of redex.Synch v f.first 0 f.environment)
feed_by kind.Hold f v = go_at (ready_of redex.Hold f.arguments v 0 0)
feed_by kind.Join f v = go_at (ready_of redex.Join v 0 0 0)
feed_by kind.Equal1 f v = go_want (second_frame kind.Equal2 f v) f.first
feed_by kind.Equal2 f v = go_at (ready_of redex.Truth (same_of f.arguments v) 0 0 0)
feed_by kind.If f v = go_at no_rule
feed_by kind.And f v = go_at no_rule
feed_by kind.Not f v = go_at no_rule
feed_by kind.Test f v = go_at no_rule
feed_by kind.Body f v = go_at (ready_of redex.Again f.first f.second 0 f.environment)
feed_by kind.Signal f v = go_at (ready_of redex.Signal v f.member 0 0)

unfoldable pub feed_of : Frame → ℕ → Refocusing
feed_of f v = feed_by f.kind f v

abbrev pub feed_if_by : Kind → Frame → ℕ → Refocusing
feed_if_by kind.Read f b = go_at no_rule
feed_if_by kind.Write1 f b = go_at no_rule
feed_if_by kind.Write2 f b = go_at no_rule
feed_if_by kind.Call f b = go_at no_rule
feed_if_by kind.Let f b = go_at no_rule
feed_if_by kind.Synch f b = go_at no_rule
feed_if_by kind.Hold f b = go_at no_rule
feed_if_by kind.Join f b = go_at no_rule
feed_if_by kind.Equal1 f b = go_at no_rule
feed_if_by kind.Equal2 f b = go_at no_rule
feed_if_by kind.If f b = cond (eqb b 1) (go_at (ready_of redex.Run f.first 0 0 f.environment)) (go_at (ready_of redex.Run f.second 0 0 f.environment))
feed_if_by kind.And f b = go_at no_rule
feed_if_by kind.Not f b = go_at no_rule
feed_if_by kind.Test f b = cond (eqb b 1) (go_at (ready_of redex.Body f.first f.second 0 f.environment)) (go_at (ready_of redex.Val 0 0 0 0))
feed_if_by kind.Body f b = go_at no_rule
feed_if_by kind.Signal f b = go_at no_rule

unfoldable pub feed_if_of : Frame → ℕ → Refocusing
feed_if_of f b = feed_if_by f.kind f b

abbrev pub feed_condition_by : Kind → Frame → ℕ → Refocusing
feed_condition_by kind.Read f b = feed_if_of f b
feed_condition_by kind.Write1 f b = feed_if_of f b
feed_condition_by kind.Write2 f b = feed_if_of f b
feed_condition_by kind.Call f b = feed_if_of f b
feed_condition_by kind.Let f b = feed_if_of f b
feed_condition_by kind.Synch f b = feed_if_of f b
feed_condition_by kind.Hold f b = feed_if_of f b
feed_condition_by kind.Join f b = feed_if_of f b
feed_condition_by kind.Equal1 f b = feed_if_of f b
feed_condition_by kind.Equal2 f b = feed_if_of f b
feed_condition_by kind.If f b = feed_if_of f b
feed_condition_by kind.And f b = cond (eqb b 1) (go_at (ready_of redex.RunCondition f.first 0 0 f.environment)) (go_at (ready_of redex.Truth 0 0 0 0))
feed_condition_by kind.Not f b = cond (eqb b 1) (go_truth 0) (go_at (ready_of redex.Truth 1 0 0 0))
feed_condition_by kind.Test f b = feed_if_of f b
feed_condition_by kind.Body f b = feed_if_of f b
feed_condition_by kind.Signal f b = feed_if_of f b

unfoldable pub feed_condition_of : Frame → ℕ → Refocusing
feed_condition_of f b = feed_condition_by f.kind f b
