-- The evaluation rules of document 001, figures 7 and 8, as document 01 changes them, and those of document 02, E3, one constructor to a rule. Assumes nothing.
use Rattle.std.specs.Prelude.{ℕ, pred, ◌≡◌, Bool, true, false, cond, List, [], eqb, length}
use Rattle.std.proofs.Math.Option.{Option, some, none}
use Rattle.std.proofs.Math.ListN.{get_elem?}
use Rattle.format.specs.Version.{Version, v0, v1}
use Rattle.run_keys.specs.Keys.{Keys, empty, singleton, holds, union, is_empty}
use Rattle.plan_packed.specs.Syntax.{Signal, Expression, Condition, Procedure, Program, literal, end, sequence, bool, bind, bind_parameters, substitute}
use Rattle.plan_packed.specs.Format.{mask_bit}
use Rattle.log_records.specs.Record.{Kind, Record, entry}
use Rattle.rules.specs.Context.{Context, Contextᶜ, plug, plugᶜ, literals}
use Rattle.rules.specs.State.{cell, Thread, State, Numbered, fresh_object, lookup, monitor, store, store_monitor, add_object, learn, hear, become}
use Rattle.rules.specs.State.{add_thread, forked, use_key, enqueue, signalled, thread_of}

-- the rules' names
pub data Rule : Type 0 where
  e_call e_let e_if e_while e_notnottrue e_andtrue e_andfalse e_equaltrue e_equalfalse : Rule
  e_new e_read e_write e_readv e_writev e_fork e_join e_re_enter e_acquire e_release : Rule
  e_wait e_wake e_notify e_notifyall : Rule

-- f ∈ F_V
unfoldable pub is_volatile : Program → ℕ → Bool
unfolding mask_bit
is_volatile g f = eqb (mask_bit g.volatiles f) 1

-- what a volatile access passes on of a set of keys. "Plan version 0 [..] means this rule: volatile reads and writes move values and no keys. Version 1 keeps
-- its meaning." (document 02, E8)
unfoldable pub passed_on : Version → Keys → Keys
passed_on v0 W = empty
passed_on v1 W = W

-- Figures 7 and 8: in program g and state s thread p, which is t, converts an expression into another; the rule, its record, and the state after it.
-- "Reads and writes give the value read or written [..]. Fork gives the new thread's object, and its number as field; join gives the object, the thread
-- number as field, and the result as value. Columns without a use are 0. Other moves leave no record."
module _ (g : Program) (s : State) (p : ℕ) (t : Thread) where
  pub data Converts : Expression → Rule → Option Record → State → Expression → Type 0 where
    E-CALL : {m : ℕ} (os : List ℕ) {d : Procedure}
        → get_elem? g.procedures m ≡ some d → d.parameters ≡ length os
        → Converts (Expression.call m (literals os end)) e_call none s (substitute (bind_parameters os) d.body)
    E-LET : {x : Option ℕ} {o : ℕ} {e : Expression}
        → Converts (Expression.let_in x (literal o) e) e_let none s (substitute (bind x o) e)
    E-IF : (b : Bool) {e e' : Expression}
        → Converts (Expression.if (bool b) e e') e_if none s (cond b e e')
    E-WHILE : {c : Condition} {e : Expression}
        → Converts (Expression.while c e) e_while none s (Expression.if c (sequence e (Expression.while c e)) (literal 0))
    -- "Objects [..] are numbered in order of creation"
    E-NEW : {fs : List ℕ}
        → Converts (Expression.new fs) e_new (some (entry Kind.new p (length s.objects) 0 0)) (add_object s (fresh_object fs)) (literal (length s.objects))
    -- "A plain read or write needs the field's one key in the thread's set."
    E-READ : (w : ℕ) {o f v : ℕ}
        → lookup s o f ≡ some (cell (singleton w) v) → holds t.keys w ≡ true → is_volatile g f ≡ false
        → Converts (Expression.read (literal o) f) e_read (some (entry Kind.read p o f v)) s (literal v)
    -- "A plain write stores the next unused key, 1 upward, and the thread learns it."
    E-WRITE : (w : ℕ) {o f u v : ℕ}
        → lookup s o f ≡ some (cell (singleton w) u) → holds t.keys w ≡ true → is_volatile g f ≡ false
        → Converts (Expression.write (literal o) f (literal v)) e_write (some (entry Kind.write p o f v))
        (learn (store (use_key s) o f (cell (singleton s.next_key) v)) p (singleton s.next_key)) (literal v)
    -- "A volatile read adds the field's set to the thread's.", as far as the version passes it on
    E-READV : {o f v : ℕ} {W : Keys}
        → lookup s o f ≡ some (cell W v) → is_volatile g f ≡ true
        → Converts (Expression.read (literal o) f) e_readv (some (entry Kind.readv p o f v)) (hear s p (passed_on g.version W)) (literal v)
    -- "A volatile write adds the thread's set to the field's.", as far as the version passes it on
    E-WRITEV : {o f u v : ℕ} {W : Keys}
        → lookup s o f ≡ some (cell W u) → is_volatile g f ≡ true
        → Converts (Expression.write (literal o) f (literal v)) e_writev (some (entry Kind.writev p o f v))
        (store s o f (cell (union W (passed_on g.version t.keys)) v)) (literal v)
    -- "a fork makes one of each"; "A forked thread starts with its maker's set."
    E-FORK : {e : Expression}
        → Converts (Expression.fork e) e_fork (some (entry Kind.fork p (length s.objects) (length s.threads) 0))
        (add_thread (add_object s (fresh_object [])) (forked s t e)) (literal (length s.objects))
    -- "Join waits for a thread that has become a value, and adds its set."
    E-JOIN : {o v : ℕ} {q : Numbered}
        → thread_of 0 s.threads o ≡ some q → q.thread.expression ≡ literal v
        → Converts (Expression.join (literal o)) e_join (some (entry Kind.join p o q.number v)) (hear s p q.thread.keys) (literal v)
    -- "Re-entry is a move that neither acquires nor later releases."
    E-RE-ENTER : {o : ℕ} {e : Expression}
        → monitor s o ≡ some (cell empty t.self)
        → Converts (Expression.synch (literal o) e) e_re_enter none s e
    -- "Acquire needs a free monitor, takes its set and empties it."; "A monitor is free exactly when its set is not empty"
    E-ACQUIRE : {o u : ℕ} {W : Keys} {e : Expression}
        → monitor s o ≡ some (cell W u) → is_empty W ≡ false
        → Converts (Expression.synch (literal o) e) e_acquire (some (entry Kind.acquire p o 0 0))
        (hear (store_monitor s o (cell empty t.self)) p W) (Expression.hold o e)
    -- "Release stores the thread's set."
    E-RELEASE : {o v : ℕ}
        → monitor s o ≡ some (cell empty t.self)
        → Converts (Expression.hold o (literal v)) e_release (some (entry Kind.release p o 0 0)) (store_monitor s o (cell t.keys 0)) (literal v)
    -- document 02, E3: "Wait gives up the monitor with the thread's keys and is logged as a release."
    E-WAIT : {o : ℕ}
        → monitor s o ≡ some (cell empty t.self)
        → Converts (Expression.signal Signal.wait (literal o)) e_wait (some (entry Kind.release p o 0 0))
        (enqueue (store_monitor s o (cell t.keys 0)) p o) (Expression.waiting o)
    -- "The thread then waits until notified, and its next move needs the monitor free and is logged as an acquire with its result null."
    E-WAKE : {o u : ℕ} {W : Keys}
        → t.place.number ≡ 0 → monitor s o ≡ some (cell W u) → is_empty W ≡ false
        → Converts (Expression.waiting o) e_wake (some (entry Kind.acquire p o 0 0))
        (hear (store_monitor s o (cell empty t.self)) p W) (literal 0)
    -- "Notify wakes, of the threads not yet notified, the one that has waited longest on that object": that at place 1, and the others move up;
    -- "both give null, are moves even where nobody waits, and leave no record."
    E-NOTIFY : {o : ℕ}
        → monitor s o ≡ some (cell empty t.self)
        → Converts (Expression.signal Signal.notify (literal o)) e_notify none (signalled pred s o) (literal 0)
    -- "notify all wakes every one"
    E-NOTIFYALL : {o : ℕ}
        → monitor s o ≡ some (cell empty t.self)
        → Converts (Expression.signal Signal.notify_all (literal o)) e_notifyall none (signalled (λ n. 0) s o) (literal 0)

-- Figure 7, the rules for conditions, which neither read nor change the state
pub data Convertsᶜ : Condition → Rule → Condition → Type 0 where
  E-NOTNOTTRUE : Convertsᶜ (Condition.not (bool false)) e_notnottrue (bool true)
  E-ANDTRUE : {c : Condition} → Convertsᶜ (Condition.and (bool true) c) e_andtrue c
  E-ANDFALSE : {c : Condition} → Convertsᶜ (Condition.and (bool false) c) e_andfalse (bool false)
  E-EQUALTRUE : {o o' : ℕ} → o ≡ o' → Convertsᶜ (Condition.equal (literal o) (literal o')) e_equaltrue (bool true)
  E-EQUALFALSE : {o o' : ℕ} → (o ≡ o' → ⊥) → Convertsᶜ (Condition.equal (literal o) (literal o')) e_equalfalse (bool false)

-- Figure 7, EVAL: thread p moves by a rule, within a context
module _ (g : Program) (s : State) (p : ℕ) where
  pub data Moves : Rule → Option Record → State → Type 0 where
    EVAL : (K : Context) {t : Thread} {e e' : Expression} {R : Rule} {r : Option Record} {s' : State}
        → get_elem? s.threads p ≡ some t → t.expression ≡ plug K e → Converts g s p t e R r s' e'
        → Moves R r (become s' p (plug K e'))
    EVALᶜ : (K : Contextᶜ) {t : Thread} {c c' : Condition} {R : Rule}
        → get_elem? s.threads p ≡ some t → t.expression ≡ plugᶜ K c → Convertsᶜ c R c'
        → Moves R none (become s p (plugᶜ K c'))

-- Definition 6.2, a write key error: thread p, which is t, is about to read or write a plain field whose key it lacks; with the record that the run
-- then ends with: "kind 11 the value it would have written, kind 10 gives 0"
module _ (g : Program) (s : State) (p : ℕ) (t : Thread) where
  pub data LacksHere : Expression → Record → Type 0 where
    LACKS-READ : (w : ℕ) {o f v : ℕ}
        → lookup s o f ≡ some (cell (singleton w) v) → holds t.keys w ≡ false → is_volatile g f ≡ false
        → LacksHere (Expression.read (literal o) f) (entry Kind.lacks_read p o f 0)
    LACKS-WRITE : (w : ℕ) {o f u v : ℕ}
        → lookup s o f ≡ some (cell (singleton w) u) → holds t.keys w ≡ false → is_volatile g f ≡ false
        → LacksHere (Expression.write (literal o) f (literal v)) (entry Kind.lacks_write p o f v)

module _ (g : Program) (s : State) (p : ℕ) where
  pub data Lacks : Record → Type 0 where
    LACKS : (K : Context) {t : Thread} {e : Expression} {r : Record}
        → get_elem? s.threads p ≡ some t → t.expression ≡ plug K e → LacksHere g s p t e r
        → Lacks r
