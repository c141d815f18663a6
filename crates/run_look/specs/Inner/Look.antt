-- Look: what a thread's next pick meets, and the state that it is in. The machine that the code runs; no reader of the entries' promises needs it. Assumes
-- nothing.
use Rattle.std.specs.Prelude.{ℕ, ◌-◌, ◌/◌, ◌%◌, ◌^◌, Bool, true, cond, eqb, leb}
use Rattle.run_keys.specs.Inner.KeySet.{holds_of, is_empty_of}
use Rattle.run_frames.specs.Inner.RedexKinds.{RedexKind as redex, is_redex}
use Rattle.run_frames.specs.declared.refocusing.Ready.{Ready}
use Rattle.run_state.specs.declared.Head.{Head}
use Rattle.run_state.specs.declared.Cell.{Cell}
use Rattle.run_state.specs.declared.Object.{Object}
use Rattle.run_state.specs.declared.Setting.{Setting}
use Rattle.run_outcome.specs.declared.Wait.TheVariants as wait
use Rattle.run_outcome.specs.declared.Stuck.TheVariants as stuck
use Rattle.run_outcome.specs.declared.ThreadState.{ThreadState}
use Rattle.run_outcome.specs.declared.ThreadState.TheVariants as state
use Rattle.run_look.specs.declared.Block.{Block}
use Rattle.run_look.specs.declared.Block.TheVariants as block
use Rattle.run_look.specs.declared.Sight.{Sight}
use Rattle.run_look.specs.declared.Sight.TheVariants as sight

-- the object and the field that a redex is about
unfoldable pub object_by : ℕ → ℕ → ℕ
object_by p a =
    cond (is_redex redex.Read p) (a % 32)
    (cond (is_redex redex.Write p) (a % 32)
    (cond (is_redex redex.Join p) (a % 32)
    (cond (is_redex redex.Synch p) (a % 32)
    (cond (is_redex redex.Hold p) (a % 32) (cond (is_redex redex.Signal p) (a % 32) (cond (is_redex redex.Waiting p) (a % 32) 0))))))

abbrev pub object_of : Ready → ℕ
object_of r = object_by r.redex r.first

unfoldable pub field_by : ℕ → ℕ → ℕ
field_by p b = cond (is_redex redex.Read p) (b % 32) (cond (is_redex redex.Write p) (b % 32) 0)

abbrev pub field_of : Ready → ℕ
field_of r = field_by r.redex r.second

-- the mask's top bit, of 32, is field 0
unfoldable pub has_of : ℕ → ℕ → Bool
has_of mask f = eqb (mask / 2 ^ (31 - f % 32) % 2) 1

unfoldable pub look_field : Setting → Head → Cell → Object → ℕ → Sight
look_field g h c t f =
    cond (has_of t.mask f) (cond (has_of g.mask f) sight.Ready (cond (holds_of h.keys (c.key % 256)) sight.Ready sight.Lacking))
    (sight.Blocked block.Field)

unfoldable pub look_join : Object → ℕ → Sight
look_join t q = cond (leb 8 t.thread) (sight.Blocked block.Thread) (cond (is_redex redex.Done q) sight.Ready (sight.Blocked block.Join))

unfoldable pub look_synch : Head → Cell → Sight
look_synch h c = cond (is_empty_of c.keys) (cond (eqb c.value h.object) sight.Ready (sight.Blocked block.Monitor)) sight.Ready

-- a signal needs the monitor held by the mover
unfoldable pub look_signal : Head → Cell → Sight
look_signal h c = cond (is_empty_of c.keys) (cond (eqb c.value h.object) sight.Ready (sight.Blocked block.NotHeld)) (sight.Blocked block.NotHeld)

-- a thread that waits in the place w, number * 32 + object, needs to be notified, and the monitor free
unfoldable pub look_waiting : Cell → ℕ → Sight
look_waiting c w = cond (eqb (w / 32) 0) (cond (is_empty_of c.keys) (sight.Blocked block.Monitor) sight.Ready) (sight.Blocked block.Notify)

unfoldable pub about_field : ℕ → Bool
about_field p = cond (is_redex redex.Read p) true (is_redex redex.Write p)

-- what the pick of a thread with redex p meets, in the place w of a queue
unfoldable pub look_by : ℕ → Setting → Head → Cell → Object → ℕ → ℕ → Sight
look_by p g h c t q w =
    cond (about_field p) (look_field g h c t h.ready.second)
    (cond (is_redex redex.Done p) (sight.Blocked block.Finished)
    (cond (is_redex redex.NoRule p) (sight.Blocked block.NoRule)
    (cond (is_redex redex.Join p) (look_join t q)
    (cond (is_redex redex.Synch p) (look_synch h c) (cond (is_redex redex.Signal p) (look_signal h c)
    (cond (is_redex redex.Waiting p) (look_waiting c w) sight.Ready))))))

abbrev pub look_of : Setting → Head → Cell → Object → ℕ → ℕ → Sight
look_of g h c t q w = look_by h.ready.redex g h c t q w

-- the state of a thread whose next pick meets this
abbrev pub blocked_of : Block → Ready → ThreadState
blocked_of block.Finished r = state.Finished r.first
blocked_of block.Monitor r = state.Waiting (wait.Monitor (object_of r))
blocked_of block.Join r = state.Waiting (wait.Join (object_of r))
blocked_of block.Notify r = state.Waiting (wait.Notify (object_of r))
blocked_of block.Field r = state.Stuck (stuck.Field (object_of r) (field_of r))
blocked_of block.Thread r = state.Stuck (stuck.Thread (object_of r))
blocked_of block.NotHeld r = state.Stuck (stuck.Monitor (object_of r))
blocked_of block.NoRule r = state.Stuck stuck.NoRule

abbrev pub state_of : Sight → Ready → ThreadState
state_of sight.Ready r = state.Ready
state_of sight.Lacking r = state.Lacking (object_of r) (field_of r)
state_of (sight.Blocked x) r = blocked_of x r
