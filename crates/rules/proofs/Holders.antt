-- Who holds a monitor: in every state of a run a monitor whose set is empty is held by a thread that is there, whose hold of it is pending. Assumes nothing.
use Prim.Native.Nat.{ℕ, zero, suc, ◌<◌, ◌≤◌}
use native.Mathlib.Omega.{arith}
use native.Mathlib.Decide.{ℕ_discrete}
use mathlib.Core.Path.{◌≡◌, refl, sym, ap, ◌∙◌, subst as along}
use mathlib.Core.Bool.{true, false, true≢false, false≢true}
use mathlib.Core.List.{List, [], ◌∷◌, ◌++◌}
use mathlib.Core.Logic.{◌⊎◌, inl, inr}
use mathlib.Core.Option.{Option, some, none}
use lib.ListN.{length, get_elem?}
use Rattle.run_keys.specs.Keys.{Keys, singleton, is_empty}
use Rattle.plan_packed.specs.Syntax.{Signal, Expression, Condition, Arguments, Program, literal, argument, bool}
use Rattle.plan_packed.proofs.WellFormed.{WellFormedProgram}
use Rattle.log_records.specs.Record.{Record}
use Rattle.rules.specs.Context.{Context, Contextᶜ, top, read, write₁, write₂, call, let_in, synch, hold, join, signal, equal₁, equal₂, plug, plugᶜ}
use Rattle.rules.specs.Context.{Redex, Redexᶜ, Focus, value, here, hereᶜ, focus, literals, redex_expression, redex_condition}
use Rattle.rules.specs.Queue.{awake}
use Rattle.rules.specs.State.{Cell, cell, Thread, State, start, fresh, fresh_object, monitor, change_at, store, store_monitor, add_object, gain, become}
use Rattle.rules.specs.State.{add_thread, forked, use_key, enqueue, signalled}
use Rattle.rules.specs.Rules.{Rule, Converts, E-CALL, E-LET, E-IF, E-WHILE, E-NEW, E-READ, E-WRITE, E-READV, E-WRITEV, E-FORK, E-JOIN, E-RE-ENTER}
use Rattle.rules.specs.Rules.{E-ACQUIRE, E-RELEASE, E-WAIT, E-WAKE, E-NOTIFY, E-NOTIFYALL, Convertsᶜ, E-NOTNOTTRUE, E-ANDTRUE, E-ANDFALSE, E-EQUALTRUE}
use Rattle.rules.specs.Rules.{E-EQUALFALSE, Moves, EVAL, EVALᶜ}
use Rattle.rules.specs.Run.{Run, logged, stopped, after_pass, after_move, play}
use Rattle.rules.specs.Execution.{Execution, ends, passes, lacks_key_lem, no_room_lem, moves}
use Rattle.rules.proofs.FocusPlug.{found, foundᶜ}
use Rattle.rules.proofs.Decompose.{whole, whole_focus}
use Rattle.rules.proofs.Placed.{Landed, Good, Around, Ready, Readyᶜ, Text, Textᶜ, held, holds, pending, pendingᶜ, GivenUp, rise, riseᶜ}
use Rattle.rules.proofs.MoreObjects.{good_more}
use Rattle.rules.proofs.StateLaws.{inside, added, added_old, changed, change_same, change_other, who, store_monitor_lem, lock_same, lock_other, new_monitors}
use Rattle.rules.proofs.Relocated.{Relocated, was_there, is_there, enqueue_relocated, signalled_relocated}
use Rattle.rules.proofs.Invariant.{In, owed, held_by, Inv, Same}
use Rattle.rules.proofs.Preserved.{seen, placed, owes, text_call, text_let, text_if, text_while, value_there}
use Rattle.rules.proofs.Executed.{Reachable, reachable_start, reachable_move, play_executes}
use Rattle.rules.proofs.Bridge.{Kept, bridge, full}
use Rattle.rules.proofs.RunKeys.{kept_start}

-- the part that moves next has given up the monitor of o
abbrev Gives : Thread → ℕ → Type 0
Gives t o = GivenUp (focus top t.expression) o

-- a thread of the state that v stands for has still to release the monitor of o, which it has not given up
pub record Holder (s : State) (o v : ℕ) : Type 0 where
  pub number : ℕ
  pub thread : Thread
  pub there : get_elem? s.threads number ≡ some thread
  pub owner : v ≡ thread.self
  pub owing : In o (owed thread)
  pub keeping : Gives thread o → ⊥

-- the invariant: a monitor whose set is empty has a holder; and who has given up a monitor has still to release it
pub record Holders (s : State) : Type 0 where
  pub taken : (o : ℕ) (c : Cell) → monitor s o ≡ some c → is_empty c.keys ≡ true → Holder s o c.value
  pub waiting : (p : ℕ) (t : Thread) → get_elem? s.threads p ≡ some t → (o : ℕ) → Gives t o → In o (owed t)

-- ---- the threads after a rule, before the mover's expression changes

-- the second threads are the first ones, but for keys, totals and places, and some that have given up no monitor
record Follows (ts us : List Thread) : Type 0 where
  forth : (q : ℕ) (t : Thread) → get_elem? ts q ≡ some t → (u : Thread) × (get_elem? us q ≡ some u) × Same t u
  back : (q : ℕ) (u : Thread) → get_elem? us q ≡ some u → ((t : Thread) × (get_elem? ts q ≡ some t) × Same t u) ⊎ ((o : ℕ) → Gives u o → ⊥)

same : (t : Thread) → Same t t
same t = record { self = refl; expression = refl }

follows_same : (ts : List Thread) → Follows ts ts
follows_same ts = record { forth = λ q t h. (t, h, same t); back = λ q u h. inl (u, h, same u) }

follows_change : (ts : List Thread) (p : ℕ) (h : Thread → Thread) → ((x : Thread) → Same x (h x)) → Follows ts (change_at ts p h)
follows_change ts p h k = record { forth = λ q t a. ahead q t a (ℕ_discrete p q); back = λ q u a. inl (behind q u (changed ts p h q u a)) }
  where
    ahead : (q : ℕ) (t : Thread) → get_elem? ts q ≡ some t → Dec (p ≡ q) → (u : Thread) × (get_elem? (change_at ts p h) q ≡ some u) × Same t u
    ahead q t a (yes x) = (h t, rw x (change_same ts q h t a), k t)
    ahead q t a (no x) = (t, change_other ts p h q x ∙ a, same t)

    behind : (q : ℕ) (u : Thread) → (t : Thread) × (get_elem? ts q ≡ some t) × ((t ≡ u) ⊎ (h t ≡ u)) → (t : Thread) × (get_elem? ts q ≡ some t) × Same t u
    behind q u (t, a, inl e) = (t, a, along (Same t) e (same t))
    behind q u (t, a, inr e) = (t, a, along (Same t) e (k t))

follows_added : (ts : List Thread) (x : Thread) → ((o : ℕ) → Gives x o → ⊥) → Follows ts (ts ++ (x ∷ []))
follows_added ts x n = record { forth = λ q t a. (t, added_old ts x q (inside ts q t a) ∙ a, same t); back = λ q u a. behind q u (added ts x q u a) }
  where
    behind : (q : ℕ) (u : Thread) → ((q < length ts) × (get_elem? ts q ≡ some u)) ⊎ ((q ≡ length ts) × (x ≡ u))
        → ((t : Thread) × (get_elem? ts q ≡ some t) × Same t u) ⊎ ((o : ℕ) → Gives u o → ⊥)
    behind q u (inl (_, a)) = inl (u, a, same u)
    behind q u (inr (_, e)) = inr (along (λ (y : Thread). (o : ℕ) → Gives y o → ⊥) e n)

follows_relocated : (ts us : List Thread) → Relocated ts us → Follows ts us
follows_relocated ts us r = record {
  forth = λ q t a. let w = is_there ts us r q t a in (_, w.1, record { self = refl; expression = refl });
  back = λ q u a. let w = was_there ts us r q u a in inl (w.0, w.1, along (Same w.0) w.2 (record { self = refl; expression = refl }));
}

-- ---- a move

-- the thread with this expression
abbrev turned : Expression → Thread → Thread
turned e x = record { self = x.self; expression = e; keys = x.keys; learnt = x.learnt; place = x.place }

-- a thread with this expression has still to release the monitor of o, which it has not given up
abbrev Owing : Expression → ℕ → Type 0
Owing e o = In o (holds (focus top e)) × (GivenUp (focus top e) o → ⊥)

-- what the monitor of o is after a move of t, which becomes e: as it was, and t owes it still if it did; or t's
abbrev Passes : State → Thread → Expression → ℕ → Cell → Type 0
Passes s t e o c = ((monitor s o ≡ some c) × (In o (owed t) → (Gives t o → ⊥) → Owing e o)) ⊎ ((c.value ≡ t.self) × Owing e o)

-- thread p, which is t, becomes e after what a rule did to the rest
module _ (s s₁ : State) (p : ℕ) (t : Thread) (ht : get_elem? s.threads p ≡ some t) (F : Follows s.threads s₁.threads) (H : Holders s)
    (e : Expression) where
  mine : (o v : ℕ) → v ≡ t.self → Owing e o → Holder (become s₁ p e) o v
  unfolding become
  mine o v q w =
      let u = F.forth p t ht in
      record { number = p; thread = _; there = change_same s₁.threads p _ u.0 u.1; owner = q ∙ sym u.2.self; owing = w.0; keeping = w.1 }

  theirs : (o v : ℕ) (h : Holder s o v) → (p ≡ h.number → ⊥) → Holder (become s₁ p e) o v
  unfolding become
  theirs o v h n =
      let u = F.forth h.number h.thread h.there in
      record {
        number = h.number;
        thread = u.0;
        there = change_other s₁.threads p _ h.number n ∙ u.1;
        owner = h.owner ∙ sym u.2.self;
        owing = rw u.2.expression h.owing;
        keeping = rw u.2.expression h.keeping;
      }

  still : (o v : ℕ) → Holder s o v → (In o (owed t) → (Gives t o → ⊥) → Owing e o) → Holder (become s₁ p e) o v
  still o v h w = go (ℕ_discrete p h.number)
    where
      go : Dec (p ≡ h.number) → Holder (become s₁ p e) o v
      go (yes x) =
          let k : some t ≡ some h.thread = sym ht ∙ ap (get_elem? s.threads) x ∙ h.there in
          let j : h.thread ≡ t = cc in
          mine o v (h.owner ∙ ap (λ (z : Thread). z.self) j)
          (w (along (λ (z : Thread). In o (owed z)) j h.owing) (along (λ (z : Thread). Gives z o → ⊥) j h.keeping))
      go (no n) = theirs o v h n

  holders_become : ((o : ℕ) (c : Cell) → monitor s₁ o ≡ some c → is_empty c.keys ≡ true → Passes s t e o c)
      → ((o : ℕ) → GivenUp (focus top e) o → In o (holds (focus top e))) → Holders (become s₁ p e)
  unfolding become monitor
  holders_become m w = record {
    taken = λ o c h i. one o c i (m o c h i);
    waiting = λ q u h. two q u (who s₁.threads p _ (F.forth p t ht).0 (F.forth p t ht).1 q u h);
  }
    where
      one : (o : ℕ) (c : Cell) → is_empty c.keys ≡ true → Passes s t e o c → Holder (become s₁ p e) o c.value
      one o c i (inl (k, z)) = still o c.value (H.taken o c k i) z
      one o c i (inr (k, z)) = mine o c.value k z

      old : (q : ℕ) (u : Thread) → ((v : Thread) × (get_elem? s.threads q ≡ some v) × Same v u) ⊎ ((o : ℕ) → Gives u o → ⊥) → (o : ℕ) → Gives u o
          → In o (owed u)
      old q u (inl (v, a, k)) o z = rw k.expression (H.waiting q v a o (rw k.expression at z))
      old q u (inr n) o z = absurd (n o z)

      two : (q : ℕ) (u : Thread) → ((p ≡ q) × (turned e (F.forth p t ht).0 ≡ u)) ⊎ ((p ≡ q → ⊥) × (get_elem? s₁.threads q ≡ some u)) → (o : ℕ)
          → Gives u o → In o (owed u)
      two q u (inl (_, y)) o z = along (λ (v : Thread). Gives v o → In o (owed v)) y (w o) z
      two q u (inr (_, y)) o z = old q u (F.back q u y) o z

-- ---- the rules

-- a new monitor is free
fresh_free : is_empty fresh.keys ≡ false
unfolding fresh is_empty
fresh_free = refl

-- a monitor that is held was there before a new object was
held_before : (s : State) (fs : List ℕ) (o : ℕ) (c : Cell) → monitor (add_object s (fresh_object fs)) o ≡ some c → is_empty c.keys ≡ true → monitor s o ≡ some c
held_before s fs o c m i = go (new_monitors s fs o)
  where
    now : Option Cell
    now = monitor (add_object s (fresh_object fs)) o

    go : (now ≡ monitor s o) ⊎ ((length s.objects ≡ o) × (monitor s o ≡ none) × (now ≡ some fresh)) → monitor s o ≡ some c
    go (inl h) = sym h ∙ m
    go (inr (_, _, h)) =
        let j : some fresh ≡ some c = sym h ∙ m in
        let y : fresh ≡ c = cc in
        absurd (false≢true (sym fresh_free ∙ ap (λ (z : Cell). is_empty z.keys) y ∙ i))

-- what a monitor is after one is stored
stored : (s : State) (o : ℕ) (c d : Cell) → monitor s o ≡ some d → (a : ℕ) (b : Cell) → monitor (store_monitor s o c) a ≡ some b
    → ((o ≡ a) × (c ≡ b)) ⊎ ((o ≡ a → ⊥) × (monitor s a ≡ some b))
stored s o c d m a b h = go (ℕ_discrete o a)
  where
    go : Dec (o ≡ a) → ((o ≡ a) × (c ≡ b)) ⊎ ((o ≡ a → ⊥) × (monitor s a ≡ some b))
    go (yes x) = let k : some c ≡ some b = sym (lock_same s o c d m) ∙ ap (monitor (store_monitor s o c)) x ∙ h in inl (x, cc)
    go (no x) = inr (x, sym (lock_other s o c a x) ∙ h)

module _ (g : Program) (P : WellFormedProgram g) (s : State) (I : Inv g s) (H : Holders s) (p : ℕ) (t : Thread) (ht : get_elem? s.threads p ≡ some t)
    (K : Context) where
  abbrev N : ℕ
  N = length s.objects

  -- the context around the part that moves, whatever objects are made
  around : (x : Redex) → t.expression ≡ plug K (redex_expression x) → (n : ℕ) → N ≤ n → Around g n K
  around x he n l = (good_more g N n l (here K x) (placed g s p t K I ht x he)).0

  -- a rule that leaves text, and the monitors that are held
  settled : (x : Redex) (s₁ : State) (n : ℕ) (e : Expression) → t.expression ≡ plug K (redex_expression x) → held x (pending K) ≡ pending K
      → Follows s.threads s₁.threads
      → ((o : ℕ) (c : Cell) → monitor s₁ o ≡ some c → is_empty c.keys ≡ true → monitor s o ≡ some c) → N ≤ n → Text g n e → Holders (become s₁ p (plug K e))
  settled x s₁ n e he q F m l c =
      let r = rise g n K e (around x he n l) c in
      holders_become s s₁ p t ht F H (plug K e)
      (λ o d h i. inl (m o d h i, λ a k. (along (In o) (owes g s p t K I ht x he ∙ q ∙ sym r.theirs) a, r.awake o)))
      (λ o z. absurd (r.awake o z))

  -- a rule that leaves text, and all else as it was
  quiet : (x : Redex) (e : Expression) → t.expression ≡ plug K (redex_expression x) → held x (pending K) ≡ pending K → Text g N e
      → Holders (become s p (plug K e))
  quiet x e he q c = settled x s N e he q (follows_same s.threads) (λ o c h i. h) (omega arith) c

  -- after what left the threads as they were the mover gains keys, whichever they are and however they count
  gained : (s₁ : State) (W : Keys) (count : Keys → ℕ) → s₁.threads ≡ s.threads → Follows s.threads (gain s₁ p W count).threads
  unfolding gain
  gained s₁ W count e = rw e (follows_change s.threads p _ (λ x. record { self = refl; expression = refl }))

  -- a rule that gains keys and leaves a value
  learns : (x : Redex) (s₁ : State) (W : Keys) (count : Keys → ℕ) (v : ℕ) → t.expression ≡ plug K (redex_expression x) → held x (pending K) ≡ pending K
      → s₁.threads ≡ s.threads
      → ((o : ℕ) → monitor s₁ o ≡ monitor s o) → v < N → Holders (become (gain s₁ p W count) p (plug K (literal v)))
  unfolding gain monitor
  learns x s₁ W count v he q e m l = settled x (gain s₁ p W count) N (literal v) he q (gained s₁ W count e) (λ o c h i. sym (m o) ∙ h) (omega arith) l

  -- a rule that takes the monitor of o
  seized : (o n : ℕ) (c : Cell) (W : Keys) (count : Keys → ℕ) (os : List ℕ) (e : Expression) → monitor s o ≡ some c → In o os
      → ((a : ℕ) → In a (owed t) → In a os) → Landed g n os (focus top e)
      → Holders (become (gain (store_monitor s o (held_by t)) p W count) p e)
  unfolding gain monitor store_monitor
  seized o n c W count os e m has more r =
      holders_become s (gain (store_monitor s o (held_by t)) p W count) p t ht (gained (store_monitor s o (held_by t)) W count refl) H e
      (λ a d h i. go a d (stored s o (held_by t) c m a d h))
      (λ a z. absurd (r.awake a z))
    where
      owing : (a : ℕ) → In a os → Owing e a
      owing a i = (along (In a) (sym r.theirs) i, r.awake a)

      go : (a : ℕ) (d : Cell) → ((o ≡ a) × (held_by t ≡ d)) ⊎ ((o ≡ a → ⊥) × (monitor s a ≡ some d)) → Passes s t e a d
      go a d (inl (x, y)) = inr (ap (λ (z : Cell). z.value) (sym y), owing a (along (λ (b : ℕ). In b os) x has))
      go a d (inr (x, y)) = inl (y, λ b k. owing a (more a b))

  -- a rule that gives the monitor of o back, and leaves the others
  freed : (s₁ : State) (o : ℕ) (e : Expression) → monitor s o ≡ some (held_by t) → is_empty t.keys ≡ false
      → s₁.objects ≡ (store_monitor s o (cell t.keys 0)).objects
      → Follows s.threads s₁.threads → ((a : ℕ) → (o ≡ a → ⊥) → In a (owed t) → Owing e a)
      → ((a : ℕ) → GivenUp (focus top e) a → In a (holds (focus top e))) → Holders (become s₁ p e)
  unfolding monitor
  freed s₁ o e m f b F w z = holders_become s s₁ p t ht F H e (λ a d h i. go a d i (stored s o (cell t.keys 0) (held_by t) m a d (rw b at h))) z
    where
      go : (a : ℕ) (d : Cell) → is_empty d.keys ≡ true → ((o ≡ a) × (cell t.keys 0 ≡ d)) ⊎ ((o ≡ a → ⊥) × (monitor s a ≡ some d)) → Passes s t e a d
      go a d i (inl (x, y)) = absurd (false≢true (sym f ∙ ap (λ (z : Cell). is_empty z.keys) y ∙ i))
      go a d i (inr (x, y)) = inl (y, λ b k. w a x b)

  -- a thread that holds a monitor has still to release it
  owes_held : (o : ℕ) → monitor s o ≡ some (held_by t) → In o (owed t)
  unfolding is_empty
  owes_held o m =
      let h = H.taken o (held_by t) m refl in
      let x : p ≡ h.number = I.apart p h.number t h.thread ht h.there h.owner in
      let k : some t ≡ some h.thread = sym ht ∙ ap (get_elem? s.threads) x ∙ h.there in
      let j : h.thread ≡ t = cc in
      along (λ (z : Thread). In o (owed z)) j h.owing

  released : (o v : ℕ) → monitor s o ≡ some (held_by t) → t.expression ≡ plug K (Expression.hold o (literal v)) → is_empty t.keys ≡ false
      → Holders (become (store_monitor s o (cell t.keys 0)) p (plug K (literal v)))
  unfolding redex_expression store_monitor
  released o v h he y =
      freed (store_monitor s o (cell t.keys 0)) o (plug K (literal v)) h y refl (follows_same s.threads) left (λ a z. absurd (r.awake a z))
    where
      pl : Around g N K × Ready g N (Redex.hold o v)
      pl = placed g s p t K I ht (Redex.hold o v) he

      r : Landed g N (pending K) (focus top (plug K (literal v)))
      r = rise g N K (literal v) pl.0 pl.1.1

      left : (a : ℕ) → (o ≡ a → ⊥) → In a (owed t) → Owing (plug K (literal v)) a
      left a n i = go (along (In a) (owes g s p t K I ht (Redex.hold o v) he) i)
        where
          go : In a (o ∷ pending K) → Owing (plug K (literal v)) a
          go (inl e) = absurd (n (sym e))
          go (inr k) = (along (In a) (sym r.theirs) k, r.awake a)

  waited : (o : ℕ) → monitor s o ≡ some (held_by t) → t.expression ≡ plug K (Expression.signal Signal.wait (literal o)) → is_empty t.keys ≡ false
      → Holders (become (enqueue (store_monitor s o (cell t.keys 0)) p o) p (plug K (Expression.waiting o)))
  unfolding redex_expression store_monitor enqueue
  waited o h he y =
      freed (enqueue s₁ p o) o (plug K (Expression.waiting o)) h y refl (follows_relocated s.threads _ (enqueue_relocated s₁ p o)) left stays
    where
      s₁ : State
      s₁ = store_monitor s o (cell t.keys 0)

      now : focus top (plug K (Expression.waiting o)) ≡ here K (Redex.waiting o)
      now = found K (Redex.waiting o)

      still_owed : (a : ℕ) → In a (owed t) → In a (holds (focus top (plug K (Expression.waiting o))))
      still_owed a i = along (In a) (owes g s p t K I ht (Redex.signal Signal.wait o) he ∙ sym (ap holds now)) i

      left : (a : ℕ) → (o ≡ a → ⊥) → In a (owed t) → Owing (plug K (Expression.waiting o)) a
      left a n i = (still_owed a i, λ z. n (sym (rw now at z)))

      stays : (a : ℕ) → GivenUp (focus top (plug K (Expression.waiting o))) a → In a (holds (focus top (plug K (Expression.waiting o))))
      stays a z = let e : a ≡ o = rw now at z in still_owed a (rw e (owes_held o h))

  signals : (f : ℕ → ℕ) (k : Signal) (o : ℕ) → t.expression ≡ plug K (redex_expression (Redex.signal k o))
      → Holders (become (signalled f s o) p (plug K (literal 0)))
  unfolding signalled monitor
  signals f k o he =
      settled (Redex.signal k o) (signalled f s o) N (literal 0) he refl
      (follows_relocated s.threads _ (signalled_relocated f s o)) (λ a c e i. e) (omega arith) I.null_there

  pub converted : {e : Expression} {R : Rule} {r : Option Record} {s₁ : State} {e' : Expression} → Converts g s p t e R r s₁ e' → t.expression ≡ plug K e
      → is_empty t.keys ≡ false → Holders (become s₁ p (plug K e'))
  unfolding redex_expression plug store use_key add_object add_thread monitor
  converted (E-CALL {m} os {d} hd hp) he y = quiet (Redex.call m os) _ he refl (text_call g P s I p t ht K m os d hd hp he)
  converted (E-LET {x} {o} {e}) he y = quiet (Redex.let_in x o e) _ he refl (text_let g P s I p t ht K x o e he)
  converted (E-IF b {e} {e'}) he y = quiet (Redex.if b e e') _ he refl (text_if g P s I p t ht K b e e' he)
  converted (E-WHILE {c} {e}) he y = quiet (Redex.while c e) _ he refl (text_while g P s I p t ht K c e he)
  converted (E-NEW {fs}) he y =
      settled (Redex.new fs) (add_object s (fresh_object fs)) (suc N) (literal N) he refl (follows_same s.threads) (held_before s fs) (omega arith)
      (omega arith)
  converted (E-READ w {o} {f} {v} h k vol) he y = quiet (Redex.read o f) (literal v) he refl (I.cells o f _ h)
  converted (E-WRITE w {o} {f} {u} {v} h k vol) he y =
      let x = Redex.write o f v in
      learns x (store (use_key s) o f _) _ _ v he refl refl (store_monitor_lem (use_key s) o f _) (placed g s p t K I ht x he).1.3
  converted (E-READV {o} {f} {v} h vol) he y = learns (Redex.read o f) s _ _ v he refl refl (λ a. refl) (I.cells o f _ h)
  converted (E-WRITEV {o} {f} {u} {v} h vol) he y =
      let x = Redex.write o f v in
      settled x _ N (literal v) he refl (follows_same s.threads) (λ a c e i. sym (store_monitor_lem s o f _ a) ∙ e) (omega arith)
      (placed g s p t K I ht x he).1.3
  converted (E-FORK {e}) he y =
      let x = Redex.fork e in
      settled x (add_thread (add_object s (fresh_object [])) (forked s t e)) (suc N) (literal N) he refl
      (follows_added s.threads (forked s t e) (rise g N top e tt (placed g s p t K I ht x he).1).awake) (held_before s []) (omega arith) (omega arith)
  converted (E-JOIN {o} {v} {q} h l) he y = learns (Redex.join o) s _ _ v he refl refl (λ a. refl) (value_there g P s I p t ht K o v q h l)
  converted (E-RE-ENTER {o} {e} h) he y = quiet (Redex.synch o e) e he refl (placed g s p t K I ht (Redex.synch o e) he).1.1
  converted (E-ACQUIRE {o} {u} {W} {e} h n) he y =
      let x = Redex.synch o e in
      let pl = placed g s p t K I ht x he in
      seized o N (cell W u) W _ (o ∷ pending K) (plug (hold K o) e) h (inl refl) (λ a i. inr (along (In a) (owes g s p t K I ht x he) i))
      (rise g N (hold K o) e (pl.1.0, pl.0) pl.1.1)
  converted (E-RELEASE {o} {v} h) he y = released o v h he y
  converted (E-WAIT {o} h) he y = waited o h he y
  converted (E-WAKE {o} {u} {W} z h n) he y =
      let x = Redex.waiting o in
      let w = along (In o) (owes g s p t K I ht x he) (H.waiting p t ht o (rw (seen g s p t K I ht x he) refl)) in
      seized o N (cell W u) W _ (pending K) (plug K (literal 0)) h w (λ a i. along (In a) (owes g s p t K I ht x he) i)
      (rise g N K (literal 0) (placed g s p t K I ht x he).0 I.null_there)
  converted (E-NOTIFY {o} h) he y = signals _ Signal.notify o he
  converted (E-NOTIFYALL {o} h) he y = signals _ Signal.notify_all o he

-- the rules for conditions
module _ (g : Program) (s : State) (I : Inv g s) (H : Holders s) (p : ℕ) (t : Thread) (ht : get_elem? s.threads p ≡ some t) (K : Contextᶜ) where
  quietᶜ : (x : Redexᶜ) (b : Condition) → t.expression ≡ plugᶜ K (redex_condition x) → (Readyᶜ g (length s.objects) x → Textᶜ g (length s.objects) b)
      → Holders (become s p (plugᶜ K b))
  quietᶜ x b h c =
      let at = ap (focus top) h ∙ foundᶜ K x in
      let pl = along (Good g (length s.objects)) at (I.each p t ht).good in
      let r = riseᶜ g (length s.objects) K b pl.0 (c pl.1) in
      holders_become s s p t ht (follows_same s.threads) H (plugᶜ K b)
      (λ o d m i. inl (m, λ a k. (along (In o) (ap holds at ∙ sym r.theirs) a, r.awake o)))
      (λ o z. absurd (r.awake o z))

  convertedᶜ : {c : Condition} {R : Rule} {c' : Condition} → Convertsᶜ c R c' → t.expression ≡ plugᶜ K c → Holders (become s p (plugᶜ K c'))
  unfolding redex_condition bool
  convertedᶜ E-NOTNOTTRUE he = quietᶜ Redexᶜ.not_false Condition.truth he (λ r. tt)
  convertedᶜ (E-ANDTRUE {c}) he = quietᶜ (Redexᶜ.and true c) c he (λ r. r)
  convertedᶜ (E-ANDFALSE {c}) he = quietᶜ (Redexᶜ.and false c) (Condition.not Condition.truth) he (λ r. tt)
  convertedᶜ (E-EQUALTRUE {o} {o'} h) he = quietᶜ (Redexᶜ.equal o o') Condition.truth he (λ r. tt)
  convertedᶜ (E-EQUALFALSE {o} {o'} h) he = quietᶜ (Redexᶜ.equal o o') (Condition.not Condition.truth) he (λ r. tt)

-- ---- runs

holders_start : Holders start
unfolding start monitor fresh_object focus
holders_start = record { taken = λ o c m i. absurd (none_held o c m i); waiting = λ p t h o z. absurd (one p t h o z) }
  where
    none_held : (o : ℕ) (c : Cell) → monitor start o ≡ some c → is_empty c.keys ≡ true → ⊥
    none_held zero c m i = let y : fresh ≡ c = cc in false≢true (sym fresh_free ∙ ap (λ (z : Cell). is_empty z.keys) y ∙ i)
    none_held (suc o) c m i = true≢false cc

    one : (p : ℕ) (t : Thread) → get_elem? start.threads p ≡ some t → (o : ℕ) → Gives t o → ⊥
    one zero t h o z =
        let e : t ≡ record { self = 0; expression = Expression.call 0 Arguments.end; keys = singleton 0; learnt = 0; place = awake } = cc in
        along (λ (y : Thread). Gives y o) e z
    one (suc p) t h o z = true≢false cc

module _ (g : Program) (P : WellFormedProgram g) where
  holders_move : (s : State) (p : ℕ) (L : List Record) → Inv g s → Kept g s L → Holders s → {R : Rule} {r : Option Record} {s' : State}
      → Moves g s p R r s' → Holders s'
  holders_move s p L I J H (EVAL K {t} ht he c) = converted g P s I H p t ht K c he (full g s I p t ht L J)
  holders_move s p L I J H (EVALᶜ K {t} ht he c) = convertedᶜ g s I H p t ht K c he

  holders_execution : {s : State} {ps : List ℕ} {r : Run} (L : List Record) → Reachable g s → Kept g s L → Holders s → Execution g s ps r → Holders r.final
  unfolding stopped after_pass after_move
  holders_execution L I J H ends = H
  holders_execution L I J H (passes h x) = holders_execution L I J H x
  holders_execution L I J H (lacks_key_lem h) = H
  holders_execution L I J H (no_room_lem h e) = H
  holders_execution L I J H (moves {s} {p = p} {e = e} h k x) =
      holders_execution (logged e L) (reachable_move g P s p I h) (bridge g s I.invariant p L J h) (holders_move s p L I.invariant J H h) x

  -- after any picks a monitor whose set is empty has a holder
  pub holders_play : (ps : List ℕ) → Holders (play g ps).final
  holders_play ps = holders_execution [] (reachable_start g P) (kept_start g) holders_start (play_executes g P ps)

-- ---- a hold that is pending, in the expression

-- an expression with a hold of o around the part that moves next
abbrev pub Holding : ℕ → Expression → Type 0
Holding o e = (K : Context) × (b : Expression) × (e ≡ plug K (Expression.hold o b))

mutual
  unfolding plug

  holding_around : (K : Context) (e : Expression) (o : ℕ) → In o (pending K) → Holding o (plug K e)
  holding_around top e o i = absurd i
  holding_around (read K f) e o i = holding_around K (Expression.read e f) o i
  holding_around (write₁ K f e') e o i = holding_around K (Expression.write e f e') o i
  holding_around (write₂ K a f) e o i = holding_around K (Expression.write (literal a) f e) o i
  holding_around (call K m os es) e o i = holding_around K (Expression.call m (literals os (argument e es))) o i
  holding_around (let_in K x e') e o i = holding_around K (Expression.let_in x e e') o i
  holding_around (synch K e') e o i = holding_around K (Expression.synch e e') o i
  holding_around (hold K a) e o (inl q) = (K, e, rw q)
  holding_around (hold K a) e o (inr i) = holding_around K (Expression.hold a e) o i
  holding_around (join K) e o i = holding_around K (Expression.join e) o i
  holding_around (signal K j) e o i = holding_around K (Expression.signal j e) o i
  holding_around (equal₁ K e') e o i = holding_aroundᶜ K (Condition.equal e e') o i
  holding_around (equal₂ K a) e o i = holding_aroundᶜ K (Condition.equal (literal a) e) o i

  holding_aroundᶜ : (K : Contextᶜ) (c : Condition) (o : ℕ) → In o (pendingᶜ K) → Holding o (plugᶜ K c)
  holding_aroundᶜ (Contextᶜ.if K e e') c o i = holding_around K (Expression.if c e e') o i
  holding_aroundᶜ (Contextᶜ.and K c') c o i = holding_aroundᶜ K (Condition.and c c') o i
  holding_aroundᶜ (Contextᶜ.not K) c o i = holding_aroundᶜ K (Condition.not c) o i

holding_redex : (K : Context) (x : Redex) (o : ℕ) → In o (held x (pending K)) → Holding o (plug K (redex_expression x))
unfolding redex_expression
holding_redex K (Redex.variable x) o i = holding_around K (Expression.variable x) o i
holding_redex K (Redex.new fs) o i = holding_around K (Expression.new fs) o i
holding_redex K (Redex.read a f) o i = holding_around K (Expression.read (literal a) f) o i
holding_redex K (Redex.write a f v) o i = holding_around K (Expression.write (literal a) f (literal v)) o i
holding_redex K (Redex.let_in x a e) o i = holding_around K (Expression.let_in x (literal a) e) o i
holding_redex K (Redex.if b e e') o i = holding_around K (Expression.if (bool b) e e') o i
holding_redex K (Redex.while c e) o i = holding_around K (Expression.while c e) o i
holding_redex K (Redex.call m os) o i = holding_around K (Expression.call m (literals os Arguments.end)) o i
holding_redex K (Redex.fork e) o i = holding_around K (Expression.fork e) o i
holding_redex K (Redex.join a) o i = holding_around K (Expression.join (literal a)) o i
holding_redex K (Redex.synch a e) o i = holding_around K (Expression.synch (literal a) e) o i
holding_redex K (Redex.hold a v) o (inl q) = (K, literal v, rw q)
holding_redex K (Redex.hold a v) o (inr i) = holding_around K (Expression.hold a (literal v)) o i
holding_redex K (Redex.signal k a) o i = holding_around K (Expression.signal k (literal a)) o i
holding_redex K (Redex.waiting a) o i = holding_around K (Expression.waiting a) o i

holding_focus : (F : Focus) (o : ℕ) → In o (holds F) → Holding o (whole F)
unfolding whole
holding_focus (value v) o i = absurd i
holding_focus (here K x) o i = holding_redex K x o i
holding_focus (hereᶜ K x) o i = holding_aroundᶜ K (redex_condition x) o i

-- a thread that has still to release a monitor has a hold of it around the part that moves next
pub holding : (t : Thread) (o : ℕ) → In o (owed t) → Holding o t.expression
holding t o i = along (Holding o) (whole_focus t.expression) (holding_focus (focus top t.expression) o i)
