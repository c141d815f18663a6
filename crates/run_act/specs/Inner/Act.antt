-- Act: what a move does, by value. The machine that the code runs; no reader of the entries' promises needs it. Assumes nothing.
use Rattle.std.specs.Prelude.{ℕ, Bool, true, false, cond, leb, ltb}
use Rattle.run_frames.specs.declared.frame.Kind.TheVariants as kind
use Rattle.run_frames.specs.Inner.RedexKinds.{RedexKind as redex, number_of, is_redex}
use Rattle.run_frames.specs.declared.refocusing.Ready.{Ready}
use Rattle.run_frames.specs.declared.refocusing.Refocusing.{Refocusing}
use Rattle.run_frames.specs.Inner.Frames.{framed}
use Rattle.run_frames.specs.Inner.Going.{ready_of, go_at, go_run, go_run_condition, go_want, go_want_condition, go_value, go_truth, go_full}
use Rattle.run_state.specs.declared.Head.{Head}
use Rattle.run_state.specs.declared.Cell.{Cell}
use Rattle.run_state.specs.declared.Object.{Object}
use Rattle.run_state.specs.declared.Counts.{Counts}
use Rattle.run_state.specs.declared.Setting.{Setting}
use Rattle.run_state.specs.declared.acted.Act.{Act}
use Rattle.run_state.specs.Inner.Acted.{go_on}
use Rattle.run_accesses.specs.Inner.Accesses.{act_read, act_write}
use Rattle.run_objects.specs.Inner.Objects.{act_new, act_fork, act_join}
use Rattle.run_monitors.specs.Inner.Monitors.{act_synch, act_hold, act_signal, act_wake}

-- whether a move of redex p only goes on elsewhere
unfoldable pub goes_on_by : ℕ → Bool
goes_on_by p = cond (ltb p (number_of redex.Run)) false (leb p (number_of redex.Again))

-- where a move that leaves no record goes on, by its redex p
unfoldable pub pure_by : ℕ → Ready → Refocusing
pure_by p r =
    cond (is_redex redex.Run p) (go_run r.first r.environment)
    (cond (is_redex redex.RunCondition p) (go_run_condition r.first r.environment)
    (cond (is_redex redex.Val p) (go_value r.first)
    (cond (is_redex redex.Truth p) (go_truth r.first)
    (cond (is_redex redex.While p) (go_want_condition (framed kind.Test r.first r.second 0 r.environment) r.first)
    (cond (is_redex redex.Body p) (go_want (framed kind.Body r.first r.second 0 r.environment) r.second)
    (cond (is_redex redex.Again p) (go_at (ready_of redex.While r.first r.second 0 r.environment)) go_full))))))

abbrev pub act_pure : Head → Refocusing
act_pure h = pure_by h.ready.redex h.ready

-- whether a move of redex p may change its cell: a write, a synch, a release, a signal, a thread that wakes
unfoldable pub changes_by : ℕ → Bool
changes_by p = cond (is_redex redex.Write p) true (leb (number_of redex.Synch) p)

-- what the move of redex p does
unfoldable pub act_by : ℕ → Setting → Counts → Head → Cell → Object → Head → Act
act_by p g n h c t q =
    cond (is_redex redex.New p) (act_new n h c h.ready.first)
    (cond (is_redex redex.Read p) (act_read g n h c h.ready.first h.ready.second)
    (cond (is_redex redex.Write p) (act_write g n h c h.ready.first h.ready.second h.ready.third)
    (cond (is_redex redex.Fork p) (act_fork n h c)
    (cond (is_redex redex.Join p) (act_join n h c t q h.ready.first)
    (cond (is_redex redex.Synch p) (act_synch n h c h.ready.first h.ready.second h.ready.environment)
    (cond (is_redex redex.Hold p) (act_hold n h h.ready.first h.ready.second)
    (cond (is_redex redex.Signal p) (act_signal n h c h.ready.first h.ready.second)
    (cond (is_redex redex.Waiting p) (act_wake n h c h.ready.first) (go_on (act_pure h) n h c)))))))))

abbrev pub act_of : Setting → Counts → Head → Cell → Object → Head → Act
act_of g n h c t q = act_by h.ready.redex g n h c t q
