-- Passing over and stopping: the answer to a pick (document 01, "How a thread moves"). Assumes nothing.
use Rattle.std.specs.Prelude.{ℕ, ◌≡◌, Bool, true, ◌||◌, ltb, leb, length, drop}
use Rattle.std.proofs.Math.Bool.{false, cond}
use mathlib.Core.List.{List, [], ◌∷◌}
use Rattle.std.proofs.Math.Option.{Option, some, none, or_else}
use Rattle.std.proofs.Math.ListN.{get_elem?}
use Rattle.run_keys.specs.Keys.{Keys, empty, is_empty}
use Rattle.plan_packed.specs.Syntax.{Signal, Expression, Program, literal}
use Rattle.log_records.specs.Record.{Record}
use Rattle.rules.specs.Context.{Context, plug, expression_depth}
use Rattle.rules.specs.State.{Form, expressions, ThreadOf, StateOf, cell, Thread, State, Numbered, lookup, monitor, thread_of}
use Rattle.rules.specs.Rules.{Rule, e_call, e_let, e_if, e_while, e_notnottrue, e_andtrue, e_andfalse, e_equaltrue, e_equalfalse, e_new, e_read}
use Rattle.rules.specs.Rules.{e_write, e_readv, e_writev, e_fork, e_join, e_re_enter, e_acquire, e_release, e_wait, e_wake, e_notify, e_notifyall}
use Rattle.rules.specs.Step.{for_monitor, for_join, for_notify, missing_field, not_thread, not_held, MoveOf, AttemptOf, Attempt, absent, finished, waiting}
use Rattle.rules.specs.Step.{stuck, lacking, moves, attempt}

-- ---- passing over, as a relation

-- the redex e of thread t cannot move, and why
module _ (s : State) (t : Thread) where
  pub data Blocked : Expression → Attempt → Type 0 where
    -- "monitor held by another"
    MONITOR-HELD : {o u : ℕ} {e : Expression}
        → monitor s o ≡ some (cell empty u) → (u ≡ t.self → ⊥)
        → Blocked (Expression.synch (literal o) e) (waiting (for_monitor o))
    -- "join of an unfinished thread, itself included"
    UNFINISHED : {o : ℕ} {q : Numbered}
        → thread_of 0 s.threads o ≡ some q → ((v : ℕ) → q.thread.expression ≡ literal v → ⊥)
        → Blocked (Expression.join (literal o)) (waiting (for_join o))
    -- "field missing from the object"
    NO-FIELD-TO-READ : {o f : ℕ}
        → lookup s o f ≡ none
        → Blocked (Expression.read (literal o) f) (stuck (missing_field o f))
    NO-FIELD-TO-WRITE : {o f v : ℕ}
        → lookup s o f ≡ none
        → Blocked (Expression.write (literal o) f (literal v)) (stuck (missing_field o f))
    -- "join of an object that is no thread"
    NO-THREAD : {o : ℕ}
        → thread_of 0 s.threads o ≡ none
        → Blocked (Expression.join (literal o)) (stuck (not_thread o))
    -- document 02, E3: "The thread then waits until notified"
    NOT-NOTIFIED : {o u : ℕ} {W : Keys}
        → (t.place.number ≡ 0 → ⊥) → monitor s o ≡ some (cell W u)
        → Blocked (Expression.waiting o) (waiting (for_notify o))
    -- "its next move needs the monitor free"
    NOT-FREE : {o u : ℕ}
        → t.place.number ≡ 0 → monitor s o ≡ some (cell empty u)
        → Blocked (Expression.waiting o) (waiting (for_monitor o))
    -- "Each needs the monitor held by the mover, else the thread is stuck with a reason of its own."
    NOT-HELD : {o u : ℕ} {k : Signal} {W : Keys}
        → monitor s o ≡ some (cell W u) → (is_empty W ≡ true → u ≡ t.self → ⊥)
        → Blocked (Expression.signal k (literal o)) (stuck (not_held o))

-- "A pick is passed over, changing nothing, if that thread is absent, finished, waiting [..] or stuck [..]."
module _ (s : State) (p : ℕ) where
  pub data PassedOver : Attempt → Type 0 where
    ABSENT : get_elem? s.threads p ≡ none → PassedOver absent
    FINISHED : {t : Thread} {v : ℕ} → get_elem? s.threads p ≡ some t → t.expression ≡ literal v → PassedOver (finished v)
    BLOCKED : (K : Context) {t : Thread} {e : Expression} {a : Attempt}
        → get_elem? s.threads p ≡ some t → t.expression ≡ plug K e → Blocked s t e a
        → PassedOver a

-- ---- room

-- "no room (thread, object, key, depth)"
pub data Room : Type 0 where
  thread object key depth : Room

-- "fork with 8 threads present; new or fork with 32 objects present, null included; plain write with keys 0 to 255 all in use": the room that a rule lacks,
-- by how many threads, objects and keys there are
abbrev pub no_room_among : (threads objects keys : ℕ) → Rule → Option Room
no_room_among threads objects keys e_call = none
no_room_among threads objects keys e_let = none
no_room_among threads objects keys e_if = none
no_room_among threads objects keys e_while = none
no_room_among threads objects keys e_notnottrue = none
no_room_among threads objects keys e_andtrue = none
no_room_among threads objects keys e_andfalse = none
no_room_among threads objects keys e_equaltrue = none
no_room_among threads objects keys e_equalfalse = none
no_room_among threads objects keys e_new = cond (leb 32 objects) (some Room.object) none
no_room_among threads objects keys e_read = none
no_room_among threads objects keys e_write = cond (leb 256 keys) (some Room.key) none
no_room_among threads objects keys e_readv = none
no_room_among threads objects keys e_writev = none
no_room_among threads objects keys e_fork = cond (leb 8 threads) (some Room.thread) (cond (leb 32 objects) (some Room.object) none)
no_room_among threads objects keys e_join = none
no_room_among threads objects keys e_re_enter = none
no_room_among threads objects keys e_acquire = none
no_room_among threads objects keys e_release = none
no_room_among threads objects keys e_wait = none
no_room_among threads objects keys e_wake = none
no_room_among threads objects keys e_notify = none
no_room_among threads objects keys e_notifyall = none

module _ {F : Form} where
  -- the room that the state before the move lacks
  unfoldable pub no_room_before : StateOf F → Rule → Option Room
  no_room_before s = no_room_among (length s.threads) (length s.objects) s.next_key

  -- a depth over 32
  unfoldable pub deep : ThreadOf F → Bool
  deep t = ltb 32 (F.depth t.expression)

  -- a depth over 32 in a thread, if there is one
  unfoldable pub deep_at : Option (ThreadOf F) → Bool
  unfolding deep
  deep_at none = false
  deep_at (some t) = deep t

  -- a depth over 32 in one of these threads
  unfoldable pub any_deep : List (ThreadOf F) → Bool
  unfolding deep
  any_deep [] = false
  any_deep (t ∷ ts) = deep t || any_deep ts

  -- "a depth over 32 after the move, in the mover or in the thread it forks": thread p moved from s to s'
  unfoldable pub no_room_after : StateOf F → ℕ → StateOf F → Option Room
  unfolding deep_at any_deep
  no_room_after s p s' = cond (deep_at (get_elem? s'.threads p) || any_deep (drop (length s.threads) s'.threads)) (some Room.depth) none

  -- the first room that thread p's move from s to s' by a rule lacks
  unfoldable pub no_room_for : Rule → StateOf F → ℕ → StateOf F → Option Room
  unfolding no_room_before no_room_after or_else
  no_room_for R s p s' = or_else (no_room_before s R) (no_room_after s p s')

-- ---- the answer to a pick

-- it is passed over, stops the run or moves its thread
pub data PickAnswerOf (F : Form) : Type 0 where
  passed : PickAnswerOf F  -- "A pick is passed over, changing nothing"
  race : Record → PickAnswerOf F  -- the run stops: key missing
  no_room : Room → PickAnswerOf F  -- the run stops: no room
  moved : MoveOf F → PickAnswerOf F

-- the answer by the rules
abbrev pub PickAnswer : Type 0
PickAnswer = PickAnswerOf expressions

module _ {F : Form} where
  -- a move is made, or "the run stops at this pick, unmoved", for the room that it lacks
  unfoldable pub within_room : MoveOf F → Option Room → PickAnswerOf F
  within_room m none = moved m
  within_room m (some k) = no_room k

  -- "A pick is passed over [..] if that thread is absent, finished, waiting [..] or stuck [..]. Otherwise the run stops at this pick, unmoved, for the
  -- first of: key missing; [..]"
  unfoldable pub answer : StateOf F → ℕ → AttemptOf F → PickAnswerOf F
  unfolding no_room_for within_room
  answer s p absent = passed
  answer s p (finished v) = passed
  answer s p (waiting w) = passed
  answer s p (stuck r) = passed
  answer s p (lacking r) = race r
  answer s p (moves m) = within_room m (no_room_for m.rule s p m.state)

-- the answer to a pick of thread p in state s
unfoldable pub step : Program → State → ℕ → PickAnswer
unfolding attempt answer expression_depth
step g s p = answer s p (attempt g s p)
