-- The rules as a function and as a relation say the same: moves, missing keys, and what is passed over. Assumes nothing.
use Prim.Native.Nat.{ℕ, zero, suc}
use native.Mathlib.Omega.{arith}
use mathlib.Core.Path.{◌≡◌, refl, sym, ap, ◌∙◌, subst as along}
use mathlib.Core.Bool.{Bool, true, false, cond, true≢false}
use mathlib.Core.List.{List}
use mathlib.Core.Option.{Option, some, none, some-ne-none}
use lib.Dec.{eqb}
use lib.ListN.{length, get_elem?}
use borrow.Author.Tests.{eq-eqb, ne_eqb, eqb-true, eqb-false}
use Rattle.run_keys.specs.Keys.{Keys, empty, singleton, holds, subset, is_empty}
use Rattle.plan_packed.specs.Syntax.{Signal, Expression, Condition, literal, end, Program, Procedure}
use Rattle.rules.specs.Context.{Context, top, plug, plugᶜ, literals, as_literal, Redex, Redexᶜ, redex_expression, redex_condition, Focus, value, here}
use Rattle.rules.specs.Context.{hereᶜ, focus}
use Rattle.rules.specs.State.{Cell, cell, Thread, State, lookup, monitor, become, thread_of, Numbered}
use Rattle.log_records.specs.Record.{Record}
use Rattle.rules.specs.Rules.{Rule, is_volatile, LacksHere, LACKS-READ, LACKS-WRITE, Lacks, LACKS, Converts, E-CALL, E-LET, E-IF, E-WHILE, E-NEW, E-READ}
use Rattle.rules.specs.Rules.{E-WRITE, E-READV, E-WRITEV, E-FORK, E-JOIN, E-RE-ENTER, E-ACQUIRE, E-RELEASE, E-WAIT, E-WAKE, E-NOTIFY, E-NOTIFYALL}
use Rattle.rules.specs.Rules.{Convertsᶜ, E-NOTNOTTRUE, E-ANDTRUE, E-ANDFALSE, E-EQUALTRUE, E-EQUALFALSE, Moves, EVAL, EVALᶜ}
use Rattle.rules.specs.Step.{Stuck, missing_field, not_thread, not_held, no_rule, equal_act, Act, waits, sticks, lacks, does, for_notify, act, actᶜ, Actᶜ}
use Rattle.rules.specs.Step.{Move, AttemptOf, Attempt, moves, attempt, attempt_by, attempt_at, around, call_act, read_act, write_act, join_act, join_value}
use Rattle.rules.specs.Step.{synch_act, hold_act, signal_move, signal_act, wake_act}
use Rattle.rules.specs.Room.{Blocked, MONITOR-HELD, UNFINISHED, NO-FIELD-TO-READ, NO-FIELD-TO-WRITE, NO-THREAD, NOT-NOTIFIED, NOT-FREE, NOT-HELD}
use Rattle.rules.specs.Room.{PassedOver, ABSENT, FINISHED, BLOCKED, PickAnswerOf, answer, within_room, no_room_for, step}
use Rattle.run_keys.proofs.KeyLaws.{subset_singleton}
use Rattle.rules.proofs.OneKey.{OneKey, its_cell}
use Rattle.rules.proofs.RoomLaws.{answer_moved}
use Rattle.rules.proofs.Decompose.{whole, whole_focus}
use Rattle.rules.proofs.FocusPlug.{found, foundᶜ}
use Rattle.rules.proofs.Back.{as_literal_lem}

-- ---- a rule of the relation is an act of the function

module _ (g : Program) (s : State) (p : ℕ) (t : Thread) where
  acts : {e : Expression} {R : Rule} {r : Option Record} {s' : State} {e' : Expression} → Converts g s p t e R r s' e'
      → (x : Redex) × (redex_expression x ≡ e) × (act g s p t x ≡ does R r s' e')
  unfolding act redex_expression
  acts (E-CALL {m} os hd hp) = (Redex.call m os, refl, rw (hd, eq-eqb _ _ hp))
  acts (E-LET {x} {o} {e}) = (Redex.let_in x o e, refl, refl)
  acts (E-IF b {e} {e'}) = (Redex.if b e e', refl, refl)
  acts (E-WHILE {c} {e}) = (Redex.while c e, refl, refl)
  acts (E-NEW {fs}) = (Redex.new fs, refl, refl)
  acts (E-READ w {o} {f} h k v) = (Redex.read o f, refl, rw (h, v, subset_singleton w t.keys ∙ k))
  acts (E-WRITE w {o} {f} {v = x} h k v) = (Redex.write o f x, refl, rw (h, v, subset_singleton w t.keys ∙ k))
  acts (E-READV {o} {f} h v) = (Redex.read o f, refl, rw (h, v))
  acts (E-WRITEV {o} {f} {v = x} h v) = (Redex.write o f x, refl, rw (h, v))
  acts (E-FORK {e}) = (Redex.fork e, refl, refl)
  acts (E-JOIN {o} h q) = (Redex.join o, refl, rw (h, q))
  acts (E-RE-ENTER {o} {e} h) = (Redex.synch o e, refl, rw (h, eq-eqb t.self t.self refl))
  acts (E-ACQUIRE {o} {e} h n) = (Redex.synch o e, refl, rw (h, n))
  acts (E-RELEASE {o} {v} h) = (Redex.hold o v, refl, rw (h, eq-eqb t.self t.self refl))
  acts (E-WAIT {o} h) = (Redex.signal Signal.wait o, refl, rw (h, eq-eqb t.self t.self refl))
  acts (E-WAKE {o} z h n) = (Redex.waiting o, refl, rw (h, z, n))
  acts (E-NOTIFY {o} h) = (Redex.signal Signal.notify o, refl, rw (h, eq-eqb t.self t.self refl))
  acts (E-NOTIFYALL {o} h) = (Redex.signal Signal.notify_all o, refl, rw (h, eq-eqb t.self t.self refl))

  acts_lacking : {e : Expression} {r : Record} → LacksHere g s p t e r → (x : Redex) × (redex_expression x ≡ e) × (act g s p t x ≡ lacks r)
  unfolding act redex_expression
  acts_lacking (LACKS-READ w {o} {f} h k v) = (Redex.read o f, refl, rw (h, v, subset_singleton w t.keys ∙ k))
  acts_lacking (LACKS-WRITE w {o} {f} {v = x} h k v) = (Redex.write o f x, refl, rw (h, v, subset_singleton w t.keys ∙ k))

actsᶜ : {c : Condition} {R : Rule} {c' : Condition} → Convertsᶜ c R c' → (x : Redexᶜ) × (redex_condition x ≡ c) × (actᶜ x ≡ record { rule = R; result = c' })
unfolding actᶜ redex_condition
actsᶜ E-NOTNOTTRUE = (Redexᶜ.not_false, refl, refl)
actsᶜ (E-ANDTRUE {c}) = (Redexᶜ.and true c, refl, refl)
actsᶜ (E-ANDFALSE {c}) = (Redexᶜ.and false c, refl, refl)
actsᶜ (E-EQUALTRUE {o} {o'} h) = (Redexᶜ.equal o o', refl, rw (eq-eqb o o' h))
actsᶜ (E-EQUALFALSE {o} {o'} h) = (Redexᶜ.equal o o', refl, rw (ne_eqb o o' h))

pub complete : (g : Program) (s : State) (p : ℕ) {R : Rule} {r : Option Record} {s' : State} → Moves g s p R r s'
    → attempt g s p ≡ moves (record { rule = R; entry = r; state = s' })
unfolding attempt
complete g s p (EVAL K {t} ht he c) =
    let a = acts g s p t c in
    ap (attempt_by g s p) ht
    ∙ ap (λ (x : Expression). attempt_at g s p t (focus top x)) (he ∙ ap (plug K) (sym a.1))
    ∙ ap (attempt_at g s p t) (found K a.0)
    ∙ ap (around s p K) a.2
complete g s p (EVALᶜ K {t} ht he c) =
    let a = actsᶜ c in
    ap (attempt_by g s p) ht
    ∙ ap (λ (x : Expression). attempt_at g s p t (focus top x)) (he ∙ ap (plugᶜ K) (sym a.1))
    ∙ ap (attempt_at g s p t) (foundᶜ K a.0)
    ∙ ap (λ (x : Actᶜ). moves (record { rule = x.rule; entry = none; state = become s p (plugᶜ K x.result) })) a.2

-- ---- what is passed over

module _ (s : State) (g : Program) (p : ℕ) (t : Thread) where
  abbrev Blocks : Act → Attempt → Type 0
  Blocks x a = (K : Context) → around s p K x ≡ a

  acts_blocked : {e : Expression} {a : Attempt} → Blocked s t e a → (x : Redex) × (redex_expression x ≡ e) × Blocks (act g s p t x) a
  unfolding act redex_expression around is_empty
  acts_blocked (MONITOR-HELD {o} {u} {e} h n) = (Redex.synch o e, refl, λ K. rw (h, ne_eqb u t.self n))
  acts_blocked (UNFINISHED {o} {q} h n) = (Redex.join o, refl, λ K. rw (h, unfinished q.thread.expression n))
    where
      unfinished : (e : Expression) → ((v : ℕ) → e ≡ literal v → ⊥) → as_literal e ≡ none
      unfinished e n = go (as_literal e) refl
        where
          go : (x : Option ℕ) → as_literal e ≡ x → x ≡ none
          go none h = refl
          go (some v) h = absurd (n v (as_literal_lem e v h))
  acts_blocked (NO-FIELD-TO-READ {o} {f} h) = (Redex.read o f, refl, λ K. rw h)
  acts_blocked (NO-FIELD-TO-WRITE {o} {f} {v} h) = (Redex.write o f v, refl, λ K. rw h)
  acts_blocked (NO-THREAD {o} h) = (Redex.join o, refl, λ K. rw h)
  acts_blocked (NOT-NOTIFIED {o} {u} {W} n h) = (Redex.waiting o, refl, λ K. rw h (go K t.place.number n))
    where
      go : (K : Context) (m : ℕ) → (m ≡ 0 → ⊥) → around s p K (wake_act s p t o m (some (cell W u))) ≡ AttemptOf.waiting (for_notify o)
      go K zero n = absurd (n refl)
      go K (suc m) n = refl
  acts_blocked (NOT-FREE {o} z h) = (Redex.waiting o, refl, λ K. rw (h, z))
  acts_blocked (NOT-HELD {o} {u} {k} {W} h n) = (Redex.signal k o, refl, λ K. rw h (go K (is_empty W) (eqb u t.self) refl refl))
    where
      go : (K : Context) (a b : Bool) → is_empty W ≡ a → eqb u t.self ≡ b
          → around s p K (cond a (cond b (signal_move s p t o k) (sticks (not_held o))) (sticks (not_held o))) ≡ AttemptOf.stuck (not_held o)
      go K true true e e' = absurd (n e (eqb-true u t.self e'))
      go K true false e e' = refl
      go K false b e e' = refl

pub complete_passed : (g : Program) (s : State) (p : ℕ) {a : Attempt} → PassedOver s p a → attempt g s p ≡ a
unfolding attempt
complete_passed g s p (ABSENT h) = ap (attempt_by g s p) h
complete_passed g s p (FINISHED {t} {v} ht he) = ap (attempt_by g s p) ht ∙ ap (λ (x : Expression). attempt_at g s p t (focus top x)) he ∙ unfold focus in refl
complete_passed g s p (BLOCKED K {t} ht he b) =
    let x = acts_blocked s g p t b in
    ap (attempt_by g s p) ht
    ∙ ap (λ (x : Expression). attempt_at g s p t (focus top x)) (he ∙ ap (plug K) (sym x.1))
    ∙ ap (attempt_at g s p t) (found K x.0)
    ∙ x.2 K

pub complete_lacks : (g : Program) (s : State) (p : ℕ) {r : Record} → Lacks g s p r → attempt g s p ≡ AttemptOf.lacking r
unfolding attempt
complete_lacks g s p (LACKS K {t} ht he w) =
    let a = acts_lacking g s p t w in
    ap (attempt_by g s p) ht
    ∙ ap (λ (x : Expression). attempt_at g s p t (focus top x)) (he ∙ ap (plug K) (sym a.1))
    ∙ ap (attempt_at g s p t) (found K a.0)
    ∙ ap (around s p K) a.2

-- what holds of a reason to be stuck, but for the one that no accepted plan meets
abbrev pub Unless : Stuck → Type 0 → Type 0
Unless (missing_field o f) A = A
Unless (not_thread o) A = A
Unless (not_held o) A = A
Unless no_rule A = Unit {0}

-- ---- an act of the function is a rule of the relation

module _ (g : Program) (s : State) (I : OneKey g s) (p : ℕ) (t : Thread) where
  -- an act that is a move is a rule
  abbrev Ruled : Expression → Act → Type 0
  Ruled e (waits w) = Blocked s t e (AttemptOf.waiting w)
  Ruled e (sticks r) = Unless r (Blocked s t e (AttemptOf.stuck r))
  Ruled e (lacks r) = LacksHere g s p t e r
  Ruled e (does R r s' e') = Converts g s p t e R r s' e'

  -- where a test decides between two acts
  which : (e : Expression) (b : Bool) (x y : Act) → (b ≡ true → Ruled e x) → (b ≡ false → Ruled e y) → Ruled e (cond b x y)
  which e true x y f h = f refl
  which e false x y f h = h refl

  call_ruled : (m : ℕ) (os : List ℕ) (d : Option Procedure) → get_elem? g.procedures m ≡ d → Ruled (Expression.call m (literals os end)) (call_act s d os)
  unfolding call_act
  call_ruled m os none h = tt
  call_ruled m os (some d) h = which _ (eqb d.parameters (length os)) _ _ (λ q. E-CALL os h (eqb-true _ _ q)) (λ q. tt)

  -- the field's one key is in the thread's set
  tested : (c : Cell) (w : ℕ) → c.keys ≡ singleton w → holds t.keys w ≡ subset c.keys t.keys
  tested c w e = sym (subset_singleton w t.keys) ∙ ap (λ (W : Keys). subset W t.keys) (sym e)

  read_ruled : (o f : ℕ) (c : Option Cell) → lookup s o f ≡ c → Ruled (Expression.read (literal o) f) (read_act g s p t o f c)
  unfolding read_act
  read_ruled o f none h = NO-FIELD-TO-READ h
  read_ruled o f (some c) h =
      which _ (is_volatile g f) _ _
      (λ v. E-READV {v = c.value} {W = c.keys} h v)
      (λ v. let k = its_cell g s I o f c h v in which _ (subset c.keys t.keys) _ _ (λ w. E-READ k.0 k.2 (tested c k.0 k.1 ∙ w) v)
      (λ w. LACKS-READ k.0 k.2 (tested c k.0 k.1 ∙ w) v))

  write_ruled : (o f x : ℕ) (c : Option Cell) → lookup s o f ≡ c → Ruled (Expression.write (literal o) f (literal x)) (write_act g s p t o f x c)
  unfolding write_act
  write_ruled o f x none h = NO-FIELD-TO-WRITE h
  write_ruled o f x (some c) h =
      which _ (is_volatile g f) _ _
      (λ v. E-WRITEV {u = c.value} {W = c.keys} h v)
      (λ v. let k = its_cell g s I o f c h v in which _ (subset c.keys t.keys) _ _ (λ w. E-WRITE k.0 k.2 (tested c k.0 k.1 ∙ w) v)
      (λ w. LACKS-WRITE k.0 k.2 (tested c k.0 k.1 ∙ w) v))

  join_ruled₂ : (o : ℕ) (q : Numbered) (v : Option ℕ) → thread_of 0 s.threads o ≡ some q → as_literal q.thread.expression ≡ v
      → Ruled (Expression.join (literal o)) (join_value s p o q v)
  unfolding join_value as_literal
  join_ruled₂ o q none h l = UNFINISHED h (λ v e. absurd (some-ne-none v (sym (ap as_literal e) ∙ l)))
  join_ruled₂ o q (some v) h l = E-JOIN h (as_literal_lem q.thread.expression v l)

  join_ruled : (o : ℕ) (q : Option (Numbered)) → thread_of 0 s.threads o ≡ q → Ruled (Expression.join (literal o)) (join_act s p o q)
  unfolding join_act
  join_ruled o none h = NO-THREAD h
  join_ruled o (some q) h = join_ruled₂ o q (as_literal q.thread.expression) h refl

  -- a monitor that is held by the thread
  held : (c : Cell) → is_empty c.keys ≡ true → eqb c.value t.self ≡ true → c ≡ record { keys = empty; value = t.self }
  unfolding is_empty
  held c k v = λ i. record { keys = eqb-true c.keys 0 k i; value = eqb-true c.value t.self v i }

  -- a monitor that is held
  emptied : (c : Cell) → is_empty c.keys ≡ true → c ≡ record { keys = empty; value = c.value }
  unfolding is_empty
  emptied c k = λ i. record { keys = eqb-true c.keys 0 k i; value = c.value }

  synch_ruled : (o : ℕ) (e : Expression) (c : Option Cell) → monitor s o ≡ c → Ruled (Expression.synch (literal o) e) (synch_act s p t o e c)
  unfolding synch_act
  synch_ruled o e none h = tt
  synch_ruled o e (some c) h =
      which _ (is_empty c.keys) _ _
      (λ k. which _ (eqb c.value t.self) _ _ (λ v. E-RE-ENTER (h ∙ ap {B = Option Cell} some (held c k v)))
      (λ v. MONITOR-HELD (h ∙ ap {B = Option Cell} some (emptied c k)) (eqb-false c.value t.self v)))
      (λ k. E-ACQUIRE {u = c.value} {W = c.keys} h k)

  hold_ruled : (o v : ℕ) (c : Option Cell) → monitor s o ≡ c → Ruled (Expression.hold o (literal v)) (hold_act s p t o v c)
  unfolding hold_act
  hold_ruled o v none h = tt
  hold_ruled o v (some c) h =
      which _ (is_empty c.keys) _ _
      (λ k. which _ (eqb c.value t.self) _ _ (λ q. E-RELEASE (h ∙ ap {B = Option Cell} some (held c k q))) (λ q. tt))
      (λ k. tt)

  move_ruled : (k : Signal) (o : ℕ) → monitor s o ≡ some (record { keys = empty; value = t.self })
      → Ruled (Expression.signal k (literal o)) (signal_move s p t o k)
  unfolding signal_move
  move_ruled Signal.wait o h = E-WAIT h
  move_ruled Signal.notify o h = E-NOTIFY h
  move_ruled Signal.notify_all o h = E-NOTIFYALL h

  signal_ruled : (k : Signal) (o : ℕ) (c : Option Cell) → monitor s o ≡ c → Ruled (Expression.signal k (literal o)) (signal_act s p t k o c)
  unfolding signal_act
  signal_ruled k o none h = tt
  signal_ruled k o (some c) h =
      which _ (is_empty c.keys) _ _
      (λ e. which _ (eqb c.value t.self) _ _ (λ v. move_ruled k o (h ∙ ap {B = Option Cell} some (held c e v)))
      (λ v. NOT-HELD {u = c.value} {W = c.keys} h (λ _ q. eqb-false c.value t.self v q)))
      (λ e. NOT-HELD {u = c.value} {W = c.keys} h (λ z _. true≢false (sym z ∙ e)))

  wake_ruled : (o n : ℕ) (c : Option Cell) → t.place.number ≡ n → monitor s o ≡ c → Ruled (Expression.waiting o) (wake_act s p t o n c)
  unfolding wake_act
  wake_ruled o zero none z h = tt
  wake_ruled o (suc n) none z h = tt
  wake_ruled o (suc n) (some c) z h = NOT-NOTIFIED {u = c.value} {W = c.keys} (λ y. omega (arith, y, z)) h
  wake_ruled o zero (some c) z h =
      which _ (is_empty c.keys) _ _ (λ k. NOT-FREE z (h ∙ ap {B = Option Cell} some (emptied c k))) (λ k. E-WAKE {u = c.value} {W = c.keys} z h k)

  ruled : (x : Redex) → Ruled (redex_expression x) (act g s p t x)
  unfolding act redex_expression
  ruled (Redex.variable x) = tt
  ruled (Redex.new fs) = E-NEW
  ruled (Redex.read o f) = read_ruled o f (lookup s o f) refl
  ruled (Redex.write o f v) = write_ruled o f v (lookup s o f) refl
  ruled (Redex.let_in x o e) = E-LET
  ruled (Redex.if b e e') = E-IF b
  ruled (Redex.while c e) = E-WHILE
  ruled (Redex.call m os) = call_ruled m os (get_elem? g.procedures m) refl
  ruled (Redex.fork e) = E-FORK
  ruled (Redex.join o) = join_ruled o (thread_of 0 s.threads o) refl
  ruled (Redex.synch o e) = synch_ruled o e (monitor s o) refl
  ruled (Redex.hold o v) = hold_ruled o v (monitor s o) refl
  ruled (Redex.signal k o) = signal_ruled k o (monitor s o) refl
  ruled (Redex.waiting o) = wake_ruled o t.place.number (monitor s o) refl refl

ruled_equal : (o o' : ℕ) (b : Bool) → eqb o o' ≡ b → Convertsᶜ (Condition.equal (literal o) (literal o')) (equal_act b).rule (equal_act b).result
unfolding equal_act
ruled_equal o o' true h = E-EQUALTRUE (eqb-true o o' h)
ruled_equal o o' false h = E-EQUALFALSE (λ q. absurd (true≢false (sym (eq-eqb o o' q) ∙ h)))

ruledᶜ : (x : Redexᶜ) → Convertsᶜ (redex_condition x) (actᶜ x).rule (actᶜ x).result
unfolding actᶜ redex_condition
ruledᶜ Redexᶜ.not_false = E-NOTNOTTRUE
ruledᶜ (Redexᶜ.and true c) = E-ANDTRUE
ruledᶜ (Redexᶜ.and false c) = E-ANDFALSE
ruledᶜ (Redexᶜ.equal o o') = ruled_equal o o' (eqb o o') refl

module _ (g : Program) (s : State) (I : OneKey g s) (p : ℕ) where
  -- what an attempt says of the thread
  abbrev pub Described : Attempt → Type 0
  Described AttemptOf.absent = PassedOver s p AttemptOf.absent
  Described (AttemptOf.finished v) = PassedOver s p (AttemptOf.finished v)
  Described (AttemptOf.waiting w) = PassedOver s p (AttemptOf.waiting w)
  Described (AttemptOf.stuck r) = Unless r (PassedOver s p (AttemptOf.stuck r))
  Described (AttemptOf.lacking r) = Lacks g s p r
  Described (moves m) = Moves g s p m.rule m.entry m.state

  -- in a context
  unless_around : (r : Stuck) (A B : Type 0) → (A → B) → Unless r A → Unless r B
  unless_around (missing_field o f) A B h a = h a
  unless_around (not_thread o) A B h a = h a
  unless_around (not_held o) A B h a = h a
  unless_around no_rule A B h a = tt

  module _ (t : Thread) (ht : get_elem? s.threads p ≡ some t) where
    described_around : (K : Context) (e : Expression) (a : Act) → plug K e ≡ t.expression → Ruled g s I p t e a → Described (around s p K a)
    unfolding around
    described_around K e (waits w) h c = BLOCKED K ht (sym h) c
    described_around K e (sticks r) h c = unless_around r _ _ (λ b. BLOCKED K ht (sym h) b) c
    described_around K e (lacks r) h c = LACKS K ht (sym h) c
    described_around K e (does R r s' e') h c = EVAL K ht (sym h) c

    described_at : (F : Focus) → whole F ≡ t.expression → Described (attempt_at g s p t F)
    unfolding attempt_at whole
    described_at (value o) h = FINISHED ht (sym h)
    described_at (here K x) h = described_around K (redex_expression x) (act g s p t x) h (ruled g s I p t x)
    described_at (hereᶜ K x) h = EVALᶜ K ht (sym h) (ruledᶜ x)

  described_by : (t : Option Thread) → get_elem? s.threads p ≡ t → Described (attempt_by g s p t)
  unfolding attempt_by
  described_by none h = ABSENT h
  described_by (some t) h = described_at t h (focus top t.expression) (whole_focus t.expression)

  -- the function says of a thread what the relations say
  pub described : Described (attempt g s p)
  unfolding attempt
  described = described_by (get_elem? s.threads p) refl

  pub sound_lacks : (r : Record) → attempt g s p ≡ AttemptOf.lacking r → Lacks g s p r
  sound_lacks r h = along Described h described

  pub sound : (m : Move) → attempt g s p ≡ moves m → Moves g s p m.rule m.entry m.state
  sound m h = along Described h described

-- ---- a pick moves exactly where a rule applies and there is room after it

module _ (g : Program) (s : State) (I : OneKey g s) (p : ℕ) where
  pub step_sound : (m : Move) → step g s p ≡ PickAnswerOf.moved m → Moves g s p m.rule m.entry m.state × (no_room_for m.rule s p m.state ≡ none)
  unfolding step
  step_sound m h = let a = answer_moved s p (attempt g s p) m h in (sound g s I p m a.0, a.1)

pub step_complete : (g : Program) (s : State) (p : ℕ) {R : Rule} {r : Option Record} {s' : State} → Moves g s p R r s' → no_room_for R s p s' ≡ none
    → step g s p ≡ PickAnswerOf.moved (record { rule = R; entry = r; state = s' })
unfolding step answer within_room
step_complete g s p m q = rw (complete g s p m, q)
