-- What a synch does at its start and at its end, a wait or a notify, and a thread that wakes, by value. The machine that the code runs; no reader of the
-- entries' promises needs it. Assumes nothing.
use Rattle.std.specs.Prelude.{ℕ, cond, eqb}
use Rattle.run_keys.specs.Inner.KeySet.{empty_set, joined_of, is_empty_of}
use Rattle.run_frames.specs.declared.frame.Kind.TheVariants as kind
use Rattle.run_frames.specs.declared.frame.Frame.{Frame}
use Rattle.run_frames.specs.Inner.RedexKinds.{RedexKind as redex}
use Rattle.run_frames.specs.Inner.Going.{ready_of, go_at, go_run, go_want, go_value}
use Rattle.run_state.specs.declared.Head.{Head}
use Rattle.run_state.specs.declared.Cell.{Cell}
use Rattle.run_state.specs.declared.Counts.{Counts}
use Rattle.log_records.specs.Record.{Kind, kind_number}
use Rattle.run_state.specs.declared.acted.Act.{Act}
use Rattle.run_state.specs.Inner.Acted.{entry_of, cell_of, acted_of, heard_of, go_on}

abbrev pub hold_frame : ℕ → ℕ → Frame
hold_frame environment o = record { kind = kind.Hold; first = 0; second = 0; member = 0; count = 0; environment = environment; arguments = o }

unfoldable pub act_synch : Counts → Head → Cell → ℕ → ℕ → ℕ → Act
act_synch n h c o t environment =
    cond (is_empty_of c.keys)
    (go_on (go_run t environment) n h c)
    (heard_of (go_want (hold_frame environment o) t) n (joined_of h.keys c.keys) (cell_of h.object 0 empty_set) (entry_of (kind_number Kind.acquire) o 0 0))

abbrev pub act_hold : Counts → Head → ℕ → ℕ → Act
act_hold n h o v = acted_of (go_value v) n h.keys (cell_of 0 0 h.keys) (entry_of (kind_number Kind.release) o 0 0)

-- a wait gives up the monitor with the thread's keys, and goes on in the queue
abbrev pub act_wait : Counts → Head → ℕ → Act
act_wait n h o = acted_of (go_at (ready_of redex.Waiting o 0 0 0)) n h.keys (cell_of 0 0 h.keys) (entry_of (kind_number Kind.release) o 0 0)

-- signal k: 0 wait, 1 notify, 2 notify all, which change the queue alone
unfoldable pub act_signal : Counts → Head → Cell → ℕ → ℕ → Act
act_signal n h c o k = cond (eqb k 0) (act_wait n h o) (go_on (go_value 0) n h c)

-- a thread that was notified takes the monitor again
abbrev pub act_wake : Counts → Head → Cell → ℕ → Act
act_wake n h c o = heard_of (go_value 0) n (joined_of h.keys c.keys) (cell_of h.object 0 empty_set) (entry_of (kind_number Kind.acquire) o 0 0)
