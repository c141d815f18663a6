-- The abstract machine; no reader of the entries' promises needs it. Its state is the rules', with frames for expressions; here is what a thread can do in
-- it. Its names are those of the definitions that it follows: use them qualified. Assumes nothing.
use Rattle.std.specs.Prelude.{ℕ, zero, suc, pred, Bool, eqb, length}
use Rattle.std.proofs.Math.Bool.{true, false, cond}
use mathlib.Core.List.{List, []}
use Rattle.std.proofs.Math.Option.{Option, some, none}
use Rattle.std.proofs.Math.ListN.{get_elem?}
use Rattle.format.specs.Version.{Version}
use Rattle.run_keys.specs.Keys.{empty, singleton, union, subset, is_empty}
use Rattle.plan_packed.specs.Syntax.{Signal}
use Rattle.plan_packed.specs.Trees.{Node}
use Rattle.log_records.specs.Record.{Kind, entry}
use Rattle.rules.specs.State.{Form, ThreadOf, StateOf, NumberedOf, Cell, cell, fresh, fresh_object, monitor_of, forked}
use Rattle.rules.specs.Rules.{Rule, passed_on, e_call, e_let, e_if, e_while, e_notnottrue, e_andtrue, e_andfalse, e_new, e_read, e_write, e_readv, e_writev}
use Rattle.rules.specs.Rules.{e_fork, e_join, e_re_enter, e_acquire, e_release, e_wait, e_wake, e_notify, e_notifyall}
use Rattle.rules.specs.Step.{for_monitor, for_join, for_notify, missing_field, not_thread, not_held, ActOf, MoveOf, AttemptOf, equal_act}
use Rattle.machine.specs.Inner.Frames.{put_bound, Closure, closure, Frame, Ready, Readyᶜ, Found, height, Result}
use Rattle.machine.specs.Inner.Refocusing.{upᶜ, enter, enterᶜ, go}
pub use Rattle.rules.specs.State.{learn, hear, in_place}
unfoldable pub use Rattle.rules.specs.State.{lookup, store, store_monitor, add_object, add_thread, gain, become, use_key, enqueue, signalled, thread_of}
pub use Rattle.rules.specs.Step.{waits, sticks, lacks, does, absent, finished, waiting, stuck, lacking, moves}

-- ---- the state

-- expressions as frames around what is ready, and as deep as there are frames
abbrev pub frames : Form
frames = record { Carrier = Found; depth = height }

abbrev pub Thread : Type 0
Thread = ThreadOf frames

abbrev pub State : Type 0
State = StateOf frames

abbrev pub Numbered : Type 0
Numbered = NumberedOf frames

-- every object that a run asks for is there: past the last, a new monitor is as good as any
unfoldable pub cell_or : Option Cell → Cell
unfolding fresh
cell_or none = fresh
cell_or (some c) = c

unfoldable pub monitor : State → ℕ → Cell
unfolding cell_or monitor_of
monitor s o = cell_or (monitor_of (get_elem? s.objects o))

unfoldable pub finished_with : Found → Option ℕ
finished_with (Found.value o) = some o
finished_with (Found.here S r) = none
finished_with (Found.hereᶜ S r) = none

-- ---- the moves

-- what the machine knows of a plan: its version, the nodes of its terms, how many there are, which fields are volatile, the roots of its procedures
pub record Table : Type 0 where
  pub version : Version
  pub node : ℕ → Node
  pub count : ℕ
  pub is_volatile : ℕ → Bool
  pub root : ℕ → ℕ

-- what is ready comes to this
abbrev pub Act : Type 0
Act = ActOf frames Result

abbrev pub Move : Type 0
Move = MoveOf frames

abbrev pub Attempt : Type 0
Attempt = AttemptOf frames

-- where a thread stands after a condition's rule
pub record Actᶜ : Type 0 where
  pub rule : Rule
  pub expression : Found

unfoldable pub join_value : State → ℕ → ℕ → Numbered → Option ℕ → Act
unfolding gain
join_value s p o q none = waits (for_join o)
join_value s p o q (some v) = does e_join (some (entry Kind.join p o q.number v)) (hear s p q.thread.keys) (Result.value v)

unfoldable pub join_act : State → ℕ → ℕ → Option Numbered → Act
unfolding join_value finished_with
join_act s p o none = sticks (not_thread o)
join_act s p o (some q) = join_value s p o q (finished_with q.thread.expression)

unfoldable pub synch_act : State → ℕ → Thread → ℕ → Closure → Cell → Act
unfolding gain store_monitor is_empty
synch_act s p t o x c =
    cond (is_empty c.keys)
    (cond (eqb c.value t.self) (does e_re_enter none s (Result.run x)) (waits (for_monitor o)))
    (does e_acquire (some (entry Kind.acquire p o 0 0)) (hear (store_monitor s o (cell empty t.self)) p c.keys) (Result.held o x))

unfoldable pub signal_move : State → ℕ → Thread → ℕ → Signal → Act
unfolding store_monitor enqueue signalled
signal_move s p t o Signal.wait = does e_wait (some (entry Kind.release p o 0 0)) (enqueue (store_monitor s o (cell t.keys 0)) p o) (Result.waiting o)
signal_move s p t o Signal.notify = does e_notify none (signalled pred s o) (Result.value 0)
signal_move s p t o Signal.notify_all = does e_notifyall none (signalled (λ n. 0) s o) (Result.value 0)

unfoldable pub signal_act : State → ℕ → Thread → Signal → ℕ → Cell → Act
unfolding is_empty signal_move
signal_act s p t k o c =
    cond (is_empty c.keys)
    (cond (eqb c.value t.self) (signal_move s p t o k) (sticks (not_held o)))
    (sticks (not_held o))

unfoldable pub wake_act : State → ℕ → Thread → ℕ → ℕ → Cell → Act
unfolding is_empty gain store_monitor
wake_act s p t o (suc n) c = waits (for_notify o)
wake_act s p t o zero c =
    cond (is_empty c.keys)
    (waits (for_monitor o))
    (does e_wake (some (entry Kind.acquire p o 0 0)) (hear (store_monitor s o (cell empty t.self)) p c.keys) (Result.value 0))

module _ (table : Table) where
  unfoldable pub read_act : State → ℕ → Thread → ℕ → ℕ → Option Cell → Act
  unfolding gain subset passed_on
  read_act s p t o f none = sticks (missing_field o f)
  read_act s p t o f (some c) =
      cond (table.is_volatile f)
      (does e_readv (some (entry Kind.readv p o f c.value)) (hear s p (passed_on table.version c.keys)) (Result.value c.value))
      (cond (subset c.keys t.keys)
      (does e_read (some (entry Kind.read p o f c.value)) s (Result.value c.value))
      (lacks (entry Kind.lacks_read p o f 0)))

  unfoldable pub write_act : State → ℕ → Thread → ℕ → ℕ → ℕ → Option Cell → Act
  unfolding gain store use_key subset union passed_on
  write_act s p t o f v none = sticks (missing_field o f)
  write_act s p t o f v (some c) =
      cond (table.is_volatile f)
      (does e_writev (some (entry Kind.writev p o f v)) (store s o f (cell (union c.keys (passed_on table.version t.keys)) v)) (Result.value v))
      (cond (subset c.keys t.keys)
      (does e_write (some (entry Kind.write p o f v)) (learn (store (use_key s) o f (cell (singleton s.next_key) v)) p (singleton s.next_key))
      (Result.value v))
      (lacks (entry Kind.lacks_write p o f v)))

  -- thread p, which is t. A call has its procedure and its count of arguments, and a hold its monitor: no run comes to another, and none is tested
  unfoldable pub act : State → ℕ → Thread → Ready → Act
  unfolding read_act write_act join_act synch_act signal_act wake_act put_bound enter fresh_object add_thread add_object store_monitor thread_of lookup monitor
  act s p t (Ready.new fs) = does e_new (some (entry Kind.new p (length s.objects) 0 0)) (add_object s (fresh_object fs)) (Result.value (length s.objects))
  act s p t (Ready.read o f) = read_act s p t o f (lookup s o f)
  act s p t (Ready.write o f v) = write_act s p t o f v (lookup s o f)
  act s p t (Ready.let_in x o y) = does e_let none s (Result.run (closure y.at (put_bound y.slots x o)))
  act s p t (Ready.if b x) = does e_if none s (Result.run (closure (cond b x.first x.second) x.slots))
  act s p t (Ready.while x) = does e_while none s (Result.while_test x)
  act s p t (Ready.call m n σ) = does e_call none s (Result.run (closure (table.root m) σ))
  act s p t (Ready.fork x) =
      does e_fork (some (entry Kind.fork p (length s.objects) (length s.threads) 0))
      (add_thread (add_object s (fresh_object [])) (forked s t (enter table.node table.count [] x)))
      (Result.value (length s.objects))
  act s p t (Ready.join o) = join_act s p o (thread_of 0 s.threads o)
  act s p t (Ready.synch o x) = synch_act s p t o x (monitor s o)
  act s p t (Ready.hold o v) = does e_release (some (entry Kind.release p o 0 0)) (store_monitor s o (cell t.keys 0)) (Result.value v)
  act s p t (Ready.signal k o) = signal_act s p t k o (monitor s o)
  act s p t (Ready.waiting o) = wake_act s p t o t.place.number (monitor s o)
  act s p t (Ready.while_test b x) = does e_if none s (cond b (Result.while_body x) (Result.value 0))
  act s p t (Ready.while_body o x) = does e_let none s (Result.while_again x)

  unfoldable pub actᶜ : List Frame → Readyᶜ → Actᶜ
  unfolding upᶜ enterᶜ equal_act
  actᶜ S Readyᶜ.not_false = record { rule = e_notnottrue; expression = upᶜ table.node table.count S true }
  actᶜ S (Readyᶜ.and true x) = record { rule = e_andtrue; expression = enterᶜ table.node table.count S x }
  actᶜ S (Readyᶜ.and false x) = record { rule = e_andfalse; expression = upᶜ table.node table.count S false }
  actᶜ S (Readyᶜ.equal o o') = record { rule = (equal_act (eqb o o')).rule; expression = upᶜ table.node table.count S (eqb o o') }

  unfoldable pub around : ℕ → List Frame → Act → Attempt
  unfolding become go
  around p S (waits w) = waiting w
  around p S (sticks r) = stuck r
  around p S (lacks r) = lacking r
  around p S (does R r s' x) = moves (record { rule = R; entry = r; state = become s' p (go table.node table.count S x) })

  unfoldable pub attempt_at : State → ℕ → Thread → Found → Attempt
  unfolding around act actᶜ become
  attempt_at s p t (Found.value o) = finished o
  attempt_at s p t (Found.here S r) = around p S (act s p t r)
  attempt_at s p t (Found.hereᶜ S r) = moves (record { rule = (actᶜ S r).rule; entry = none; state = become s p (actᶜ S r).expression })

  unfoldable pub attempt_by : State → ℕ → Option Thread → Attempt
  unfolding attempt_at
  attempt_by s p none = absent
  attempt_by s p (some t) = attempt_at s p t t.expression

  -- what thread p can do in state s
  unfoldable pub attempt : State → ℕ → Attempt
  unfolding attempt_by
  attempt s p = attempt_by s p (get_elem? s.threads p)
