-- Who waits and who is woken (document 02, E3), by the outcome's words and by the moves of an execution. Assumes nothing.
use Rattle.std.specs.Prelude.{ℕ, suc, ◌<◌, ◌≤◌, ◌≡◌, Bool, true, false, cond, ◌&&◌, List, [], ◌∷◌, ◌↔◌, eqb}
use Rattle.std.proofs.Math.Option.{Option, some, none}
use Rattle.std.proofs.Math.ListN.{get_elem?}
use Rattle.plan_packed.specs.Syntax.{Signal, Expression, Program, literal}
use Rattle.log_records.specs.Record.{Record}
use Rattle.rules.specs.Context.{Context, plug}
use Rattle.rules.specs.Queue.{Place, queue_length}
use Rattle.rules.specs.State.{Thread, State, places_of, start}
use Rattle.rules.specs.Rules.{Rule, e_call, e_let, e_if, e_while, e_notnottrue, e_andtrue, e_andfalse, e_equaltrue, e_equalfalse, e_new, e_read}
use Rattle.rules.specs.Rules.{e_write, e_readv, e_writev, e_fork, e_join, e_re_enter, e_acquire, e_release, e_wait, e_wake, e_notify, e_notifyall}
use Rattle.rules.specs.Rules.{Moves}
use Rattle.rules.specs.Step.{AttemptOf, for_monitor, for_notify}
use Rattle.rules.specs.Room.{PassedOver}
use Rattle.rules.specs.Run.{Run}
use Rattle.rules.specs.Execution.{Execution, ends, passes, lacks_key_lem, no_room_lem, moves}

-- ---- who waits, and who is woken

-- thread p "waits until notified" on o: its pick would be passed over for that reason
abbrev pub Awaits : State → ℕ → ℕ → Type 0
Awaits s o p = PassedOver s p (AttemptOf.waiting (for_notify o))

-- over a move from s to s' thread p, which waited on o, is woken
abbrev pub Woken : State → State → ℕ → ℕ → Type 0
Woken s s' o p = Awaits s o p × (Awaits s' o p → ⊥)

-- what thread p does next is k, on o
abbrev pub Signals : State → ℕ → Signal → ℕ → Type 0
Signals s p k o = (K : Context) × (t : Thread) × (get_elem? s.threads p ≡ some t) × (t.expression ≡ plug K (Expression.signal k (literal o)))

-- ---- who has waited longest

-- the rule is E-WAIT
unfoldable pub is_wait : Rule → Bool
is_wait e_call = false
is_wait e_let = false
is_wait e_if = false
is_wait e_while = false
is_wait e_notnottrue = false
is_wait e_andtrue = false
is_wait e_andfalse = false
is_wait e_equaltrue = false
is_wait e_equalfalse = false
is_wait e_new = false
is_wait e_read = false
is_wait e_write = false
is_wait e_readv = false
is_wait e_writev = false
is_wait e_fork = false
is_wait e_join = false
is_wait e_re_enter = false
is_wait e_acquire = false
is_wait e_release = false
is_wait e_wait = true
is_wait e_wake = false
is_wait e_notify = false
is_wait e_notifyall = false

-- the last wait move of each thread, where move n is thread p's by a rule, and `since` gives the last ones before it
unfoldable pub noted : (ℕ → Option ℕ) → ℕ → Rule → ℕ → (ℕ → Option ℕ)
unfolding is_wait
noted since n R p q = cond (is_wait R && eqb p q) (some n) (since q)

-- the last wait move of each thread where an execution ends that comes after n moves, by its number among all moves
unfoldable pub last_wait_after : {g : Program} {s : State} {ps : List ℕ} {r : Run} → (ℕ → Option ℕ) → ℕ → Execution g s ps r → (ℕ → Option ℕ)
unfolding noted
last_wait_after since n ends = since
last_wait_after since n (passes h x) = last_wait_after since n x
last_wait_after since n (lacks_key_lem h) = since
last_wait_after since n (no_room_lem h e) = since
last_wait_after since n (moves {p = p} {R = R} h k x) = last_wait_after (noted since n R p) (suc n) x

-- and of a whole execution, the first move being number 0; none of a thread that has made none
unfoldable pub last_wait : {g : Program} {ps : List ℕ} {r : Run} → Execution g start ps r → (ℕ → Option ℕ)
unfolding last_wait_after
last_wait x = last_wait_after (λ p. none) 0 x

-- "of the threads not yet notified, the one that has waited longest on that object": thread p, whose wait move came before that of each other thread that
-- waits on o where the execution ends
pub record Longest {g : Program} {ps : List ℕ} {r : Run} (x : Execution g start ps r) (o p : ℕ) : Type 0 where
  pub waits : Awaits r.final o p
  pub since : ℕ
  pub its_wait : last_wait x p ≡ some since
  pub others_later : (q : ℕ) → Awaits r.final o q → (p ≡ q → ⊥) → (n : ℕ) × (last_wait x q ≡ some n) × (since < n)

-- ---- the places

-- how many of these are place n of the queue of o
unfoldable pub holders : ℕ → ℕ → List Place → ℕ
holders o n [] = 0
holders o n (w ∷ ws) = cond (eqb o w.object && eqb n w.number) (suc (holders o n ws)) (holders o n ws)

-- "The thread's state keeps its place in the queue": the places of a queue are 1 to its length, each of one thread, and that thread waits on the queue's object
pub record InLine (s : State) : Type 0 where
  pub each_once : (o n : ℕ) → 0 < n → n ≤ queue_length o (places_of s) → holders o n (places_of s) ≡ 1
  pub none_behind : (o n : ℕ) → queue_length o (places_of s) < n → holders o n (places_of s) ≡ 0
  pub waits_there : (p : ℕ) (t : Thread) → get_elem? s.threads p ≡ some t → (t.place.number ≡ 0 → ⊥)
      → (K : Context) × (t.expression ≡ plug K (Expression.waiting t.place.object))

-- ---- what E3 says of the queues, where an execution stands

pub record Queueing {g : Program} {ps : List ℕ} {r : Run} (x : Execution g start ps r) : Type 0 where
  pub line : InLine r.final
  -- of two threads that wait on one object the one with the lower place made its wait move earlier
  pub lower_earlier : (o p q : ℕ) (t u : Thread) → get_elem? r.final.threads p ≡ some t → get_elem? r.final.threads q ≡ some u
      → Awaits r.final o p → Awaits r.final o q → t.place.number < u.place.number
      → (i : ℕ) × (j : ℕ) × (last_wait x p ≡ some i) × (last_wait x q ≡ some j) × (i < j)
  -- where anyone waits, one has waited longest
  pub some_longest : (o q : ℕ) → Awaits r.final o q → (p : ℕ) × Longest x o p
  -- "Notify wakes, of the threads not yet notified, the one that has waited longest on that object", and no other
  pub notify_wakes : (p : ℕ) (R : Rule) (e : Option Record) (s' : State) → Moves g r.final p R e s' → (o : ℕ) → Signals r.final p Signal.notify o
      → (a q : ℕ) → Woken r.final s' a q ↔ ((a ≡ o) × Longest x o q)
  -- "notify all wakes every one" that waits on that object
  pub notify_all_wakes : (p : ℕ) (R : Rule) (e : Option Record) (s' : State) → Moves g r.final p R e s' → (o : ℕ) → Signals r.final p Signal.notify_all o
      → (a q : ℕ) → Woken r.final s' a q ↔ ((a ≡ o) × Awaits r.final o q)
  -- "The thread then waits until notified": no other move wakes anyone
  pub nothing_else_wakes : (p : ℕ) (R : Rule) (e : Option Record) (s' : State) → Moves g r.final p R e s' → (R ≡ e_notify → ⊥) → (R ≡ e_notifyall → ⊥)
      → (o q : ℕ) → Awaits r.final o q → Awaits s' o q
  -- "its next move needs the monitor free": whoever is woken waits for the monitor, which the waker holds
  pub woken_kept_out : (p : ℕ) (R : Rule) (e : Option Record) (s' : State) → Moves g r.final p R e s'
      → (o q : ℕ) → Woken r.final s' o q → PassedOver s' q (AttemptOf.waiting (for_monitor o))
  -- a thread that waits, for the first time or again, stands behind those who wait
  pub waits_behind : (p : ℕ) (R : Rule) (e : Option Record) (s' : State) → Moves g r.final p R e s' → (o : ℕ) → Signals r.final p Signal.wait o
      → Awaits s' o p
      × ((q : ℕ) (t u : Thread) → Awaits r.final o q → get_elem? s'.threads p ≡ some t → get_elem? s'.threads q ≡ some u
      → u.place.number < t.place.number)
