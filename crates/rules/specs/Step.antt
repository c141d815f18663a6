-- The rules as a function: what a thread can do next (document 01, "How a thread moves"). Assumes nothing.
use Rattle.std.specs.Prelude.{ℕ, zero, suc, pred, Bool, true, false, cond, List, [], eqb, length}
use Rattle.std.proofs.Math.Option.{Option, some, none}
use Rattle.std.proofs.Math.ListN.{get_elem?}
use Rattle.run_keys.specs.Keys.{empty, singleton, union, subset, is_empty}
use Rattle.plan_packed.specs.Syntax.{Signal, Expression, Condition, Procedure, Program, literal, sequence, bool, bind, bind_parameters, substitute}
use Rattle.log_records.specs.Record.{Kind, Record, entry}
use Rattle.rules.specs.Context.{Context, top, plug, plugᶜ, Redex, Redexᶜ, Focus, value, here, hereᶜ, focus, as_literal}
use Rattle.rules.specs.State.{Form, expressions, StateOf, Cell, cell, Thread, State, Numbered, fresh_object, lookup, monitor, store, store_monitor}
use Rattle.rules.specs.State.{add_object, gain, learn, hear, become, add_thread, forked, use_key, enqueue, signalled, thread_of}
use Rattle.rules.specs.Rules.{Rule, is_volatile, passed_on, e_call, e_let, e_if, e_while, e_notnottrue, e_andtrue, e_andfalse, e_equaltrue, e_equalfalse}
use Rattle.rules.specs.Rules.{e_new, e_read, e_write, e_readv, e_writev, e_fork, e_join, e_re_enter, e_acquire, e_release, e_wait, e_wake, e_notify}
use Rattle.rules.specs.Rules.{e_notifyall}

-- "waiting (monitor held by another, or join of an unfinished thread, itself included)", with the object; and "The thread then waits until notified"
-- (document 02, E3)
pub data Wait : Type 0 where
  for_monitor : ℕ → Wait
  for_join : ℕ → Wait
  for_notify : ℕ → Wait

-- "stuck (field missing from the object, or join of an object that is no thread)", with the object, and the field; and "Each needs the monitor held by the
-- mover, else the thread is stuck with a reason of its own." (document 02, E3)
pub data Stuck : Type 0 where
  missing_field : ℕ → ℕ → Stuck
  not_thread : ℕ → Stuck
  not_held : ℕ → Stuck
  -- a slot that nothing binds, a call without its procedure or arguments, an object or a held monitor that is not there: no accepted plan comes here
  no_rule : Stuck

-- what a redex comes to. Of a rule: its record, the state after it but for the mover's expression, and what replaces the redex, which is an E
pub data ActOf (F : Form) (E : Type 0) : Type 0 where
  waits : Wait → ActOf F E
  sticks : Stuck → ActOf F E
  lacks : Record → ActOf F E
  does : Rule → Option Record → StateOf F → E → ActOf F E

-- by the rules an expression replaces it
abbrev pub Act : Type 0
Act = ActOf expressions Expression

-- E-CALL
unfoldable pub call_act : State → Option Procedure → List ℕ → Act
unfolding substitute bind_parameters
call_act s none os = sticks no_rule
call_act s (some d) os = cond (eqb d.parameters (length os)) (does e_call none s (substitute (bind_parameters os) d.body)) (sticks no_rule)

-- E-READ, E-READV
unfoldable pub read_act : Program → State → ℕ → Thread → ℕ → ℕ → Option Cell → Act
unfolding is_volatile passed_on subset gain
read_act g s p t o f none = sticks (missing_field o f)
read_act g s p t o f (some c) =
    cond (is_volatile g f)
    (does e_readv (some (entry Kind.readv p o f c.value)) (hear s p (passed_on g.version c.keys)) (literal c.value))
    (cond (subset c.keys t.keys)
    (does e_read (some (entry Kind.read p o f c.value)) s (literal c.value))
    (lacks (entry Kind.lacks_read p o f 0)))

-- E-WRITE, E-WRITEV
unfoldable pub write_act : Program → State → ℕ → Thread → ℕ → ℕ → ℕ → Option Cell → Act
unfolding is_volatile passed_on subset gain store use_key union
write_act g s p t o f v none = sticks (missing_field o f)
write_act g s p t o f v (some c) =
    cond (is_volatile g f)
    (does e_writev (some (entry Kind.writev p o f v)) (store s o f (cell (union c.keys (passed_on g.version t.keys)) v)) (literal v))
    (cond (subset c.keys t.keys)
    (does e_write (some (entry Kind.write p o f v)) (learn (store (use_key s) o f (cell (singleton s.next_key) v)) p (singleton s.next_key)) (literal v))
    (lacks (entry Kind.lacks_write p o f v)))

-- E-JOIN of thread q, by the value that it has become: "Join waits for a thread that has become a value, and adds its set."
unfoldable pub join_value : State → ℕ → ℕ → Numbered → Option ℕ → Act
unfolding gain
join_value s p o q none = waits (for_join o)
join_value s p o q (some v) = does e_join (some (entry Kind.join p o q.number v)) (hear s p q.thread.keys) (literal v)

-- E-JOIN, by the thread that the object stands for
unfoldable pub join_act : State → ℕ → ℕ → Option Numbered → Act
unfolding as_literal join_value
join_act s p o none = sticks (not_thread o)
join_act s p o (some q) = join_value s p o q (as_literal q.thread.expression)

-- E-RE-ENTER, E-ACQUIRE. "A monitor is free exactly when its set is not empty; thread 0 as owner looks like null otherwise."
unfoldable pub synch_act : State → ℕ → Thread → ℕ → Expression → Option Cell → Act
unfolding is_empty gain store_monitor
synch_act s p t o e none = sticks no_rule
synch_act s p t o e (some c) =
    cond (is_empty c.keys)
    (cond (eqb c.value t.self) (does e_re_enter none s e) (waits (for_monitor o)))
    (does e_acquire (some (entry Kind.acquire p o 0 0)) (hear (store_monitor s o (cell empty t.self)) p c.keys) (Expression.hold o e))

-- E-RELEASE
unfoldable pub hold_act : State → ℕ → Thread → ℕ → ℕ → Option Cell → Act
unfolding is_empty store_monitor
hold_act s p t o v none = sticks no_rule
hold_act s p t o v (some c) =
    cond (is_empty c.keys)
    (cond (eqb c.value t.self)
    (does e_release (some (entry Kind.release p o 0 0)) (store_monitor s o (cell t.keys 0)) (literal v))
    (sticks no_rule))
    (sticks no_rule)

-- E-WAIT, E-NOTIFY, E-NOTIFYALL, where the mover holds the monitor
unfoldable pub signal_move : State → ℕ → Thread → ℕ → Signal → Act
unfolding store_monitor enqueue signalled
signal_move s p t o Signal.wait = does e_wait (some (entry Kind.release p o 0 0)) (enqueue (store_monitor s o (cell t.keys 0)) p o) (Expression.waiting o)
signal_move s p t o Signal.notify = does e_notify none (signalled pred s o) (literal 0)
signal_move s p t o Signal.notify_all = does e_notifyall none (signalled (λ n. 0) s o) (literal 0)

-- "Each needs the monitor held by the mover, else the thread is stuck with a reason of its own." (document 02, E3)
unfoldable pub signal_act : State → ℕ → Thread → Signal → ℕ → Option Cell → Act
unfolding is_empty signal_move
signal_act s p t k o none = sticks no_rule
signal_act s p t k o (some c) =
    cond (is_empty c.keys)
    (cond (eqb c.value t.self) (signal_move s p t o k) (sticks (not_held o)))
    (sticks (not_held o))

-- E-WAKE, by the number of the thread's place
unfoldable pub wake_act : State → ℕ → Thread → ℕ → ℕ → Option Cell → Act
unfolding is_empty gain store_monitor
wake_act s p t o n none = sticks no_rule
wake_act s p t o (suc n) (some c) = waits (for_notify o)
wake_act s p t o zero (some c) =
    cond (is_empty c.keys) (waits (for_monitor o))
    (does e_wake (some (entry Kind.acquire p o 0 0)) (hear (store_monitor s o (cell empty t.self)) p c.keys) (literal 0))

-- the rules for expressions: thread p, which is t
unfoldable pub act : Program → State → ℕ → Thread → Redex → Act
unfolding call_act read_act write_act join_act synch_act hold_act signal_act wake_act bind substitute sequence fresh_object add_object add_thread lookup monitor thread_of
act g s p t (Redex.variable x) = sticks no_rule
act g s p t (Redex.new fs) = does e_new (some (entry Kind.new p (length s.objects) 0 0)) (add_object s (fresh_object fs)) (literal (length s.objects))
act g s p t (Redex.read o f) = read_act g s p t o f (lookup s o f)
act g s p t (Redex.write o f v) = write_act g s p t o f v (lookup s o f)
act g s p t (Redex.let_in x o e) = does e_let none s (substitute (bind x o) e)
act g s p t (Redex.if b e e') = does e_if none s (cond b e e')
act g s p t (Redex.while c e) = does e_while none s (Expression.if c (sequence e (Expression.while c e)) (literal 0))
act g s p t (Redex.call m os) = call_act s (get_elem? g.procedures m) os
act g s p t (Redex.fork e) =
    does e_fork (some (entry Kind.fork p (length s.objects) (length s.threads) 0))
    (add_thread (add_object s (fresh_object [])) (forked s t e))
    (literal (length s.objects))
act g s p t (Redex.join o) = join_act s p o (thread_of 0 s.threads o)
act g s p t (Redex.synch o e) = synch_act s p t o e (monitor s o)
act g s p t (Redex.hold o v) = hold_act s p t o v (monitor s o)
act g s p t (Redex.signal k o) = signal_act s p t k o (monitor s o)
act g s p t (Redex.waiting o) = wake_act s p t o t.place.number (monitor s o)

-- what a condition's redex comes to: its rule, and what replaces it
pub record Actᶜ : Type 0 where
  pub rule : Rule
  pub result : Condition

-- E-EQUALTRUE or E-EQUALFALSE, by whether the two objects are one
unfoldable pub equal_act : Bool → Actᶜ
unfolding bool
equal_act true = record { rule = e_equaltrue; result = bool true }
equal_act false = record { rule = e_equalfalse; result = bool false }

-- the rules for conditions
unfoldable pub actᶜ : Redexᶜ → Actᶜ
unfolding equal_act
actᶜ Redexᶜ.not_false = record { rule = e_notnottrue; result = bool true }
actᶜ (Redexᶜ.and true c) = record { rule = e_andtrue; result = c }
actᶜ (Redexᶜ.and false c) = record { rule = e_andfalse; result = bool false }
actᶜ (Redexᶜ.equal o o') = equal_act (eqb o o')

-- a move: its rule, its record, the state after it
pub record MoveOf (F : Form) : Type 0 where
  pub rule : Rule
  pub entry : Option Record
  pub state : StateOf F

-- a move by the rules
abbrev pub Move : Type 0
Move = MoveOf expressions

-- what a thread can do, whatever the room
pub data AttemptOf (F : Form) : Type 0 where
  absent : AttemptOf F
  finished : ℕ → AttemptOf F
  waiting : Wait → AttemptOf F
  stuck : Stuck → AttemptOf F
  lacking : Record → AttemptOf F
  moves : MoveOf F → AttemptOf F

-- what it can do by the rules
abbrev pub Attempt : Type 0
Attempt = AttemptOf expressions

-- EVAL
unfoldable pub around : State → ℕ → Context → Act → Attempt
unfolding become plug
around s p K (waits w) = waiting w
around s p K (sticks r) = stuck r
around s p K (lacks r) = lacking r
around s p K (does R r s' e) = moves (record { rule = R; entry = r; state = become s' p (plug K e) })

-- what thread p, which is t, can do where it moves next
unfoldable pub attempt_at : Program → State → ℕ → Thread → Focus → Attempt
unfolding around act actᶜ become plug
attempt_at g s p t (value o) = finished o
attempt_at g s p t (here K r) = around s p K (act g s p t r)
attempt_at g s p t (hereᶜ K r) = moves (record { rule = (actᶜ r).rule; entry = none; state = become s p (plugᶜ K (actᶜ r).result) })

-- what thread p can do, if it is there
unfoldable pub attempt_by : Program → State → ℕ → Option Thread → Attempt
unfolding attempt_at focus
attempt_by g s p none = absent
attempt_by g s p (some t) = attempt_at g s p t (focus top t.expression)

-- what thread p can do in state s
unfoldable pub attempt : Program → State → ℕ → Attempt
unfolding attempt_by
attempt g s p = attempt_by g s p (get_elem? s.threads p)
