-- Every plain write takes a key that nobody holds or held: every key of every set is below the next one, in every state of every run. Assumes nothing.
use Prim.Native.Nat.{ℕ, zero, suc, ◌<◌, ◌≤◌}
use native.Mathlib.Omega.{arith}
use native.Mathlib.Decide.{ℕ_discrete}
use mathlib.Core.Path.{◌≡◌, refl, sym, ap, ◌∙◌, subst as along}
use mathlib.Core.Bool.{Bool, true, false, ◌||◌, true≢false}
use mathlib.Core.List.{List, [], ◌∷◌}
use mathlib.Core.Logic.{◌⊎◌, inl, inr}
use mathlib.Core.Option.{Option, some, none}
use lib.Dec.{T, eqb→eq}
use lib.ListN.{length, get_elem?}
use Rattle.format.specs.Version.{Version, v0, v1}
use Rattle.run_keys.specs.Keys.{Keys, empty, singleton, holds, union, is_empty}
use Rattle.run_keys.proofs.KeyLaws.{holds_empty, holds_singleton, holds_union, no_key}
use Rattle.plan_packed.specs.Syntax.{Expression, Condition, Arguments, Program}
use Rattle.log_records.specs.Record.{Kind, Record, entry}
use Rattle.rules.specs.Queue.{awake}
use Rattle.rules.specs.State.{Cell, cell, Thread, State, fresh, fresh_object, lookup, monitor, store, store_monitor, add_object, gain, become, add_thread}
use Rattle.rules.specs.State.{forked, use_key, enqueue, signalled, start, change_at}
use Rattle.rules.specs.Rules.{Rule, passed_on, e_write, Converts, E-CALL, E-LET, E-IF, E-WHILE, E-NEW, E-READ, E-WRITE, E-READV, E-WRITEV, E-FORK}
use Rattle.rules.specs.Rules.{E-JOIN, E-RE-ENTER, E-ACQUIRE, E-RELEASE, E-WAIT, E-WAKE, E-NOTIFY, E-NOTIFYALL, Convertsᶜ, E-NOTNOTTRUE, E-ANDTRUE}
use Rattle.rules.specs.Rules.{E-ANDFALSE, E-EQUALTRUE, E-EQUALFALSE, Moves, EVAL, EVALᶜ}
use Rattle.rules.specs.Run.{Run}
use Rattle.rules.specs.Execution.{Execution, ends, passes, lacks_key_lem, no_room_lem, moves}
use Rattle.rules.specs.NewKeys.{KeysBelow, Unused, Held, BY-THREAD, BY-FIELD, BY-MONITOR, NeverHeld, StoresNew, WritesNew}
use Rattle.rules.proofs.Relocated.{Relocated, with_threads, was_there, enqueue_relocated, signalled_relocated}
use Rattle.rules.proofs.StateLaws.{added, changed, store_same, store_other, store_monitor_lem, lock_same, lock_other, lock_lookup, new_lookup}
use Rattle.rules.proofs.StateLaws.{new_monitors, found_thread}

below_singleton : (w n : ℕ) → w < n → KeysBelow (singleton w) n
below_singleton w n h k t = let e : k ≡ w = eqb→eq k w (rw (holds_singleton w k) at t) in omega arith

below_empty : (n : ℕ) → KeysBelow empty n
below_empty n k t = absurd (rw (holds_empty k) at t)

below_union : (K L : Keys) (n : ℕ) → KeysBelow K n → KeysBelow L n → KeysBelow (union K L) n
below_union K L n f g k t = go (holds K k) (holds L k) refl refl (rw (holds_union K L k) at t)
  where
    go : (x y : Bool) → holds K k ≡ x → holds L k ≡ y → T (x || y) → k < n
    go true y e d h = f k (rw e tt)
    go false y e d h = g k (rw d h)

below_passed : (v : Version) (K : Keys) (n : ℕ) → KeysBelow K n → KeysBelow (passed_on v K) n
unfolding passed_on is_empty
below_passed v0 K n f k t = absurd (no_key (passed_on v0 K) k refl t)
below_passed v1 K n f k t = f k t

below_fresh : (c : Cell) (n : ℕ) → fresh ≡ c → 0 < n → KeysBelow c.keys n
unfolding fresh
below_fresh c n e h = along (λ (z : Cell). KeysBelow z.keys n) e (below_singleton 0 n h)

-- ---- the parts of a move

unused_key : (s : State) → Unused s → Unused (use_key s)
unfolding use_key lookup monitor
unused_key s U = record {
  threads = λ p t h k x. let b = U.threads p t h k x in omega arith;
  fields = λ o f c h k x. let b = U.fields o f c h k x in omega arith;
  monitors = λ o c h k x. let b = U.monitors o c h k x in omega arith;
  positive = omega arith;
}

unused_store : (s : State) (o f : ℕ) (c d : Cell) → lookup s o f ≡ some d → KeysBelow c.keys s.next_key → Unused s → Unused (store s o f c)
unfolding store
unused_store s o f c d h b U = record {
  threads = U.threads;
  fields = λ o' f' c' h'. go o' f' c' h' (ℕ_discrete o o') (ℕ_discrete f f');
  monitors = λ o' c' h'. U.monitors o' c' (sym (store_monitor_lem s o f c o') ∙ h');
  positive = U.positive;
}
  where
    go : (o' f' : ℕ) (c' : Cell) → lookup (store s o f c) o' f' ≡ some c' → Dec (o ≡ o') → Dec (f ≡ f') → KeysBelow c'.keys s.next_key
    go o' f' c' h' (yes x) (yes y) =
        let q : some c ≡ some c' = sym (store_same s o f c d h) ∙ ap (λ (z : ℕ). lookup (store s o f c) o z) y ∙ ap (λ (z : ℕ). lookup (store s o f c) z f') x
        ∙ h' in
        let r : c ≡ c' = cc in
        along (λ (z : Cell). KeysBelow z.keys s.next_key) r b
    go o' f' c' h' (yes x) (no y) = U.fields o' f' c' (sym (store_other s o f c o' f' (λ p q. y q)) ∙ h')
    go o' f' c' h' (no x) y = U.fields o' f' c' (sym (store_other s o f c o' f' (λ p q. x p)) ∙ h')

unused_lock : (s : State) (o : ℕ) (c d : Cell) → monitor s o ≡ some d → KeysBelow c.keys s.next_key → Unused s → Unused (store_monitor s o c)
unfolding store_monitor
unused_lock s o c d h b U = record {
  threads = U.threads;
  fields = λ o' f' c' h'. U.fields o' f' c' (sym (lock_lookup s o c o' f') ∙ h');
  monitors = λ o' c' h'. go o' c' h' (ℕ_discrete o o');
  positive = U.positive;
}
  where
    go : (o' : ℕ) (c' : Cell) → monitor (store_monitor s o c) o' ≡ some c' → Dec (o ≡ o') → KeysBelow c'.keys s.next_key
    go o' c' h' (yes x) =
        let q : some c ≡ some c' = sym (lock_same s o c d h) ∙ ap (λ (z : ℕ). monitor (store_monitor s o c) z) x ∙ h' in
        let r : c ≡ c' = cc in
        along (λ (z : Cell). KeysBelow z.keys s.next_key) r b
    go o' c' h' (no x) = U.monitors o' c' (sym (lock_other s o c o' x) ∙ h')

unused_new : (s : State) (fs : List ℕ) → Unused s → Unused (add_object s (fresh_object fs))
unfolding add_object
unused_new s fs U = record {
  threads = U.threads;
  fields = λ o f c h. field_of o f c h (new_lookup s fs o f);
  monitors = λ o c h. monitor_of_lem o c h (new_monitors s fs o);
  positive = U.positive;
}
  where
    s₁ : State
    s₁ = add_object s (fresh_object fs)

    field_of : (o f : ℕ) (c : Cell) → lookup s₁ o f ≡ some c
        → (lookup s₁ o f ≡ lookup s o f) ⊎ ((length s.objects ≡ o) × (lookup s o f ≡ none) × (lookup s₁ o f ≡ some fresh)) → KeysBelow c.keys s.next_key
    field_of o f c h (inl e) = U.fields o f c (sym e ∙ h)
    field_of o f c h (inr (_, _, e)) = let q : some fresh ≡ some c = sym e ∙ h in below_fresh c s.next_key (cc) U.positive

    monitor_of_lem : (o : ℕ) (c : Cell) → monitor s₁ o ≡ some c
        → (monitor s₁ o ≡ monitor s o) ⊎ ((length s.objects ≡ o) × (monitor s o ≡ none) × (monitor s₁ o ≡ some fresh)) → KeysBelow c.keys s.next_key
    monitor_of_lem o c h (inl e) = U.monitors o c (sym e ∙ h)
    monitor_of_lem o c h (inr (_, _, e)) = let q : some fresh ≡ some c = sym e ∙ h in below_fresh c s.next_key (cc) U.positive

-- one thread changes, and its keys stay below the next
unused_change : (s : State) (p : ℕ) (h : Thread → Thread) → ((t : Thread) → KeysBelow t.keys s.next_key → KeysBelow (h t).keys s.next_key) → Unused s
    → Unused (record { objects = s.objects; threads = change_at s.threads p h; next_key = s.next_key })
unfolding lookup monitor
unused_change s p h b U = record {
  threads = λ q u e. go q u (changed s.threads p h q u e);
  fields = λ o f c e. U.fields o f c e;
  monitors = λ o c e. U.monitors o c e;
  positive = U.positive;
}
  where
    go : (q : ℕ) (u : Thread) → (t : Thread) × (get_elem? s.threads q ≡ some t) × ((t ≡ u) ⊎ (h t ≡ u)) → KeysBelow u.keys s.next_key
    go q u (t, e, inl x) = along (λ (z : Thread). KeysBelow z.keys s.next_key) x (U.threads q t e)
    go q u (t, e, inr x) = along (λ (z : Thread). KeysBelow z.keys s.next_key) x (b t (U.threads q t e))

unused_gain : (s : State) (p : ℕ) (W : Keys) (n : Keys → ℕ) → KeysBelow W s.next_key → Unused s → Unused (gain s p W n)
unfolding gain
unused_gain s p W n b U = unused_change s p _ (λ t c. below_union W t.keys s.next_key b c) U

unused_become : (s : State) (p : ℕ) (e : Expression) → Unused s → Unused (become s p e)
unfolding become
unused_become s p e U = unused_change s p _ (λ t c. c) U

unused_thread : (s : State) (u : Thread) → KeysBelow u.keys s.next_key → Unused s → Unused (add_thread s u)
unfolding add_thread lookup monitor
unused_thread s u b U = record {
  threads = λ q w e. go q w (added s.threads u q w e);
  fields = λ o f c e. U.fields o f c e;
  monitors = λ o c e. U.monitors o c e;
  positive = U.positive;
}
  where
    go : (q : ℕ) (w : Thread) → ((q < length s.threads) × (get_elem? s.threads q ≡ some w)) ⊎ ((q ≡ length s.threads) × (u ≡ w))
        → KeysBelow w.keys s.next_key
    go q w (inl (_, e)) = U.threads q w e
    go q w (inr (_, e)) = along (λ (z : Thread). KeysBelow z.keys s.next_key) e b

-- places alone change
unused_relocated : (s : State) (us : List Thread) → Relocated s.threads us → Unused s → Unused (with_threads s us)
unfolding lookup monitor
unused_relocated s us r U = record {
  threads = λ q u e. let w = was_there s.threads us r q u e in along (λ (z : Thread). KeysBelow z.keys s.next_key) w.2 (U.threads q w.0 w.1);
  fields = λ o f c e. U.fields o f c e;
  monitors = λ o c e. U.monitors o c e;
  positive = U.positive;
}

-- ---- moves

module _ (g : Program) (s : State) (p : ℕ) (t : Thread) (ht : get_elem? s.threads p ≡ some t) (U : Unused s) where
  kept : {e : Expression} {R : Rule} {r : Option Record} {s' : State} {e' : Expression} → Converts g s p t e R r s' e' → Unused s'
  unfolding use_key add_object store_monitor store lookup enqueue signalled
  kept (E-CALL os hd hp) = U
  kept E-LET = U
  kept (E-IF b) = U
  kept E-WHILE = U
  kept (E-NEW {fs}) = unused_new s fs U
  kept (E-READ w h k v) = U
  kept (E-WRITE w {o} {f} {u} {v} h k vol) =
      let c : Cell = cell (singleton s.next_key) v in
      let b : KeysBelow (singleton s.next_key) (suc s.next_key) = below_singleton s.next_key (suc s.next_key) (omega arith) in
      unused_gain (store (use_key s) o f c) p (singleton s.next_key) _ b (unused_store (use_key s) o f c (cell (singleton w) u) h b (unused_key s U))
  kept (E-READV {o} {f} {v} {W} h vol) = unused_gain s p (passed_on g.version W) _ (below_passed g.version W s.next_key (U.fields o f (cell W v) h)) U
  kept (E-WRITEV {o} {f} {u} {v} {W} h vol) =
      let W' = passed_on g.version t.keys in
      unused_store s o f (cell (union W W') v) (cell W u) h
      (below_union W W' s.next_key (U.fields o f (cell W u) h) (below_passed g.version t.keys s.next_key (U.threads p t ht))) U
  kept (E-FORK {e}) = unused_thread (add_object s (fresh_object [])) (forked s t e) (U.threads p t ht) (unused_new s [] U)
  kept (E-JOIN {o} {v} {q} h l) =
      let j = found_thread s.threads 0 o q h in
      unused_gain s p q.thread.keys _ (U.threads j.0 q.thread j.2) U
  kept (E-RE-ENTER h) = U
  kept (E-ACQUIRE {o} {u} {W} h n) =
      unused_gain (store_monitor s o (cell empty t.self)) p W _ (U.monitors o (cell W u) h)
      (unused_lock s o (cell empty t.self) (cell W u) h (below_empty s.next_key) U)
  kept (E-RELEASE {o} h) = unused_lock s o (cell t.keys 0) (cell empty t.self) h (U.threads p t ht) U
  kept (E-WAIT {o} h) =
      unused_relocated (store_monitor s o (cell t.keys 0)) _ (enqueue_relocated (store_monitor s o (cell t.keys 0)) p o)
      (unused_lock s o (cell t.keys 0) (cell empty t.self) h (U.threads p t ht) U)
  kept (E-WAKE {o} {u} {W} z h n) =
      unused_gain (store_monitor s o (cell empty t.self)) p W _ (U.monitors o (cell W u) h)
      (unused_lock s o (cell empty t.self) (cell W u) h (below_empty s.next_key) U)
  kept (E-NOTIFY {o} h) = unused_relocated s _ (signalled_relocated _ s o) U
  kept (E-NOTIFYALL {o} h) = unused_relocated s _ (signalled_relocated _ s o) U

-- every move keeps it
pub unused_move : (g : Program) (s : State) (p : ℕ) → Unused s → {R : Rule} {r : Option Record} {s' : State} → Moves g s p R r s' → Unused s'
unused_move g s p U (EVAL K {t} {s' = s'} ht he c) = unused_become s' p _ (kept g s p t ht U c)
unused_move g s p U (EVALᶜ K ht he c) = unused_become s p _ U

pub unused_start : Unused start
unfolding start fresh_object lookup monitor
unused_start = record {
  threads = λ p t h. one p t h;
  fields = λ o f c h. absurd (nowhere o f c h);
  monitors = λ o c h. free o c h;
  positive = omega arith;
}
  where
    one : (p : ℕ) (t : Thread) → get_elem? start.threads p ≡ some t → KeysBelow t.keys 1
    one zero t h =
        let e : record { self = 0; expression = Expression.call 0 Arguments.end; keys = singleton 0; learnt = 0; place = awake } ≡ t = cc in
        along (λ (z : Thread). KeysBelow z.keys 1) e (below_singleton 0 1 (omega arith))
    one (suc p) t h = absurd (true≢false cc)

    nowhere : (o f : ℕ) (c : Cell) → lookup start o f ≡ some c → ⊥
    nowhere zero f c h = true≢false cc
    nowhere (suc o) f c h = true≢false cc

    free : (o : ℕ) (c : Cell) → monitor start o ≡ some c → KeysBelow c.keys 1
    free zero c h = below_fresh c 1 (cc) (omega arith)
    free (suc o) c h = absurd (true≢false cc)

-- ---- executions

-- the states so far hold no key from n on
abbrev Older : List State → ℕ → Type 0
Older [] n = Unit {0}
Older (s ∷ past) n = ((k : ℕ) → Held s k → k < n) × Older past n

held_below : (s : State) → Unused s → (k : ℕ) → Held s k → k < s.next_key
held_below s U k (BY-THREAD p {t} h b) = U.threads p t h k b
held_below s U k (BY-FIELD o f {c} h b) = U.fields o f c h k b
held_below s U k (BY-MONITOR o {c} h b) = U.monitors o c h k b

older_more : (past : List State) (m n : ℕ) → m ≤ n → Older past m → Older past n
older_more [] m n h a = tt
older_more (s ∷ past) m n h a = (λ k b. let c = a.0 k b in omega arith, older_more past m n h a.1)

older_never : (past : List State) (n : ℕ) → Older past n → NeverHeld past n
older_never [] n a = tt
older_never (s ∷ past) n a = (λ b. let c = a.0 n b in omega arith, older_never past n a.1)

-- the next key never falls
next_converts : {g : Program} {s : State} {p : ℕ} {t : Thread} {e : Expression} {R : Rule} {r : Option Record} {s' : State} {e' : Expression}
    → Converts g s p t e R r s' e' → s.next_key ≤ s'.next_key
unfolding gain store store_monitor add_object add_thread use_key enqueue signalled
next_converts (E-CALL os hd hp) = omega arith
next_converts E-LET = omega arith
next_converts (E-IF b) = omega arith
next_converts E-WHILE = omega arith
next_converts E-NEW = omega arith
next_converts (E-READ w h k v) = omega arith
next_converts (E-WRITE w h k v) = omega arith
next_converts (E-READV h v) = omega arith
next_converts (E-WRITEV h v) = omega arith
next_converts E-FORK = omega arith
next_converts (E-JOIN h l) = omega arith
next_converts (E-RE-ENTER h) = omega arith
next_converts (E-ACQUIRE h n) = omega arith
next_converts (E-RELEASE h) = omega arith
next_converts (E-WAIT h) = omega arith
next_converts (E-WAKE z h n) = omega arith
next_converts (E-NOTIFY h) = omega arith
next_converts (E-NOTIFYALL h) = omega arith

next_moves : {g : Program} {s : State} {p : ℕ} {R : Rule} {r : Option Record} {s' : State} → Moves g s p R r s' → s.next_key ≤ s'.next_key
unfolding become
next_moves (EVAL K ht he c) = next_converts c
next_moves (EVALᶜ K ht he c) = omega arith

-- a plain write stores the next key
module _ (g : Program) (s : State) (p : ℕ) (past : List State) (a : NeverHeld past s.next_key) where
  stores : {t : Thread} {e : Expression} {R : Rule} {r : Option Record} {s' : State} {e' : Expression} → Converts g s p t e R r s' e' → (w : Expression)
      → R ≡ e_write
      → StoresNew past r (become s' p w)
  unfolding become gain use_key lookup
  stores (E-CALL os hd hp) w q = absurd (true≢false cc)
  stores E-LET w q = absurd (true≢false cc)
  stores (E-IF b) w q = absurd (true≢false cc)
  stores E-WHILE w q = absurd (true≢false cc)
  stores E-NEW w q = absurd (true≢false cc)
  stores (E-READ x h k v) w q = absurd (true≢false cc)
  stores (E-WRITE x {o} {f} {u} {v} h k vol) w q = record {
    access = entry Kind.write p o f v;
    recorded = refl;
    key = s.next_key;
    stored = store_same (use_key s) o f (cell (singleton s.next_key) v) (cell (singleton x) u) h;
    new = a;
  }
  stores (E-READV h v) w q = absurd (true≢false cc)
  stores (E-WRITEV h v) w q = absurd (true≢false cc)
  stores E-FORK w q = absurd (true≢false cc)
  stores (E-JOIN h l) w q = absurd (true≢false cc)
  stores (E-RE-ENTER h) w q = absurd (true≢false cc)
  stores (E-ACQUIRE h n) w q = absurd (true≢false cc)
  stores (E-RELEASE h) w q = absurd (true≢false cc)
  stores (E-WAIT h) w q = absurd (true≢false cc)
  stores (E-WAKE z h n) w q = absurd (true≢false cc)
  stores (E-NOTIFY h) w q = absurd (true≢false cc)
  stores (E-NOTIFYALL h) w q = absurd (true≢false cc)

  stores_move : {R : Rule} {r : Option Record} {s' : State} → Moves g s p R r s' → R ≡ e_write → StoresNew past r s'
  stores_move (EVAL K ht he c) q = stores c _ q
  stores_move (EVALᶜ K ht he c) q = absurd (condition c q)
    where
      condition : {b b' : Condition} {R : Rule} → Convertsᶜ b R b' → R ≡ e_write → ⊥
      condition E-NOTNOTTRUE q = true≢false cc
      condition E-ANDTRUE q = true≢false cc
      condition E-ANDFALSE q = true≢false cc
      condition (E-EQUALTRUE h) q = true≢false cc
      condition (E-EQUALFALSE h) q = true≢false cc

pub writes_new : {g : Program} {s : State} {ps : List ℕ} {r : Run} (past : List State) → Unused s → Older past s.next_key → (x : Execution g s ps r)
    → WritesNew past x
writes_new past U a ends = tt
writes_new past U a (passes h x) = writes_new past U a x
writes_new past U a (lacks_key_lem h) = tt
writes_new past U a (no_room_lem h e) = tt
writes_new {g} past U a (moves {s} {s'} {p} h k x) =
    let b : Older (s ∷ past) s.next_key = (held_below s U, a) in (
      stores_move g s p (s ∷ past) (older_never (s ∷ past) s.next_key b) h,
      writes_new (s ∷ past) (unused_move g s p U h) (older_more (s ∷ past) s.next_key s'.next_key (next_moves h) b) x,
    )
