-- The queues of an execution's states (document 02, E3): how a move changes the threads' places; the places of a queue are 1 to its length, each once, of
-- threads that wait there; and a lower place is that of an earlier wait. Assumes nothing.
use Prim.Native.Nat.{ℕ, zero, suc, pred, ◌<◌}
use native.Mathlib.Omega.{arith}
use native.Mathlib.Decide.{ℕ_discrete}
use mathlib.Core.Path.{◌≡◌, refl, sym, ap, ◌∙◌, subst as along}
use mathlib.Core.Bool.{true, false, true≢false}
use mathlib.Core.List.{List, [], ◌∷◌, ◌++◌, map}
use mathlib.Core.Logic.{◌⊎◌, inl, inr}
use mathlib.Core.Option.{Option, some, none}
use lib.ListN.{length, get_elem?}
use borrow.Author.Tests.{eq-eqb, ne_eqb}
use Rattle.run_keys.specs.Keys.{empty, singleton}
use Rattle.plan_packed.specs.Syntax.{Expression, Condition, Arguments, Program, literal}
use Rattle.log_records.specs.Record.{Record}
use Rattle.rules.specs.Context.{Context, plug, focus, top, Redex, redex_expression}
use Rattle.rules.specs.Queue.{Place, awake, queue_length, last_place, moved_up}
use Rattle.rules.specs.State.{Cell, cell, Thread, State, start, monitor, change_at, gain, become, add_object, add_thread, store, store_monitor, use_key}
use Rattle.rules.specs.State.{enqueue, signalled, places_of}
use Rattle.rules.specs.Rules.{Rule, e_fork, e_wait, e_notify, e_notifyall, Converts, E-CALL, E-LET, E-IF, E-WHILE, E-NEW, E-READ, E-WRITE, E-READV}
use Rattle.rules.specs.Rules.{E-WRITEV, E-FORK, E-JOIN, E-RE-ENTER, E-ACQUIRE, E-RELEASE, E-WAIT, E-WAKE, E-NOTIFY, E-NOTIFYALL, Convertsᶜ}
use Rattle.rules.specs.Rules.{E-NOTNOTTRUE, E-ANDTRUE, E-ANDFALSE, E-EQUALTRUE, E-EQUALFALSE, Moves, EVAL, EVALᶜ}
use Rattle.rules.specs.Step.{Move, moves, wake_act, act, around, attempt_at, attempt_by, attempt}
use Rattle.rules.specs.Run.{Run, stopped, after_pass, after_move}
use Rattle.rules.specs.Execution.{Execution, ends, passes, lacks_key_lem, no_room_lem}
use Rattle.rules.specs.Waking.{is_wait, noted, last_wait_after, last_wait, holders}
use Rattle.rules.proofs.FocusPlug.{found}
use Rattle.rules.proofs.Equivalence.{complete}
use Rattle.rules.proofs.StateLaws.{inside, added, added_old, changed, change_same, change_other}
use Rattle.rules.proofs.QueueLaws.{In, Line, line_awake, line_behind, line_notified, line_all, all, within, moved_number, moved_other, moved_object}
use Rattle.rules.proofs.QueueLaws.{mapped, mapped_at, length_awake, holders_awake}

-- ---- what a move does to the threads

-- the monitor of o is held
abbrev pub HeldIn : State → ℕ → Type 0
HeldIn s o = (u : ℕ) × (monitor s o ≡ some (cell empty u))

-- of a move of thread p by a rule, but for its last part, where p becomes e
module _ (s : State) (p : ℕ) where
  data Shape : Rule → State → Expression → Type 0 where
    same : {R : Rule} {s₁ : State} {e : Expression} → is_wait R ≡ false → s₁.threads ≡ s.threads → Shape R s₁ e
    gains : {R : Rule} {s₁ : State} {e : Expression} (h : Thread → Thread) → is_wait R ≡ false
        → ((x : Thread) → ((h x).expression ≡ x.expression) × ((h x).place ≡ x.place)) → s₁.threads ≡ change_at s.threads p h → Shape R s₁ e
    forks : {s₁ : State} {e : Expression} (u : Thread) → u.place ≡ awake → s₁.threads ≡ s.threads ++ (u ∷ []) → Shape e_fork s₁ e
    waits : {s₁ : State} (o : ℕ) (h : Thread → Thread) → ((x : Thread) → (h x).place ≡ last_place o (places_of s)) → s₁.threads ≡ change_at s.threads p h
        → Shape e_wait s₁ (Expression.waiting o)
    notifies : {s₁ : State} {e : Expression} (o : ℕ) (h : Thread → Thread)
        → ((x : Thread) → ((h x).expression ≡ x.expression) × ((h x).place ≡ moved_up pred o x.place))
        → s₁.threads ≡ map h s.threads → HeldIn s₁ o → Shape e_notify s₁ e
    notifies_all : {s₁ : State} {e : Expression} (o : ℕ) (h : Thread → Thread)
        → ((x : Thread) → ((h x).expression ≡ x.expression) × ((h x).place ≡ moved_up all o x.place))
        → s₁.threads ≡ map h s.threads → HeldIn s₁ o → Shape e_notifyall s₁ e

shaped : {g : Program} {s : State} {p : ℕ} {t : Thread} {e : Expression} {R : Rule} {r : Option Record} {s₁ : State} {e' : Expression}
    → Converts g s p t e R r s₁ e' → Shape s p R s₁ e'
unfolding is_wait gain add_object add_thread store store_monitor use_key enqueue signalled monitor
shaped (E-CALL os hd hp) = same refl refl
shaped E-LET = same refl refl
shaped (E-IF b) = same refl refl
shaped E-WHILE = same refl refl
shaped E-NEW = same refl refl
shaped (E-READ w h k v) = same refl refl
shaped (E-WRITE w h k v) = gains _ refl (λ x. (refl, refl)) refl
shaped (E-READV h v) = gains _ refl (λ x. (refl, refl)) refl
shaped (E-WRITEV h v) = same refl refl
shaped E-FORK = forks _ refl refl
shaped (E-JOIN h l) = gains _ refl (λ x. (refl, refl)) refl
shaped (E-RE-ENTER h) = same refl refl
shaped (E-ACQUIRE h n) = gains _ refl (λ x. (refl, refl)) refl
shaped (E-RELEASE h) = same refl refl
shaped (E-WAIT {o} h) = waits o _ (λ x. refl) refl
shaped (E-WAKE z h n) = gains _ refl (λ x. (refl, refl)) refl
shaped {t = t} (E-NOTIFY {o} h) = notifies o _ (λ x. (refl, refl)) refl (t.self, h)
shaped {t = t} (E-NOTIFYALL {o} h) = notifies_all o _ (λ x. (refl, refl)) refl (t.self, h)

no_wait : {c c' : Condition} {R : Rule} → Convertsᶜ c R c' → is_wait R ≡ false
unfolding is_wait
no_wait E-NOTNOTTRUE = refl
no_wait E-ANDTRUE = refl
no_wait E-ANDFALSE = refl
no_wait (E-EQUALTRUE h) = refl
no_wait (E-EQUALFALSE h) = refl

-- ---- what it does to the places

abbrev pub place_of : Thread → Place
place_of t = t.place

places_kept : (ts : List Thread) (p : ℕ) (h : Thread → Thread) → ((x : Thread) → (h x).place ≡ x.place) → map place_of (change_at ts p h) ≡ map place_of ts
unfolding change_at
places_kept [] p h k = refl
places_kept (t ∷ ts) zero h k = ap (λ (w : Place). w ∷ map place_of ts) (k t)
places_kept (t ∷ ts) (suc p) h k = ap (λ (ws : List Place). t.place ∷ ws) (places_kept ts p h k)

pub places_taken : (ts : List Thread) (p : ℕ) (h : Thread → Thread) (w : Place) → ((x : Thread) → (h x).place ≡ w)
    → map place_of (change_at ts p h) ≡ change_at (map place_of ts) p (λ x. w)
unfolding change_at
places_taken [] p h w k = refl
places_taken (t ∷ ts) zero h w k = ap (λ (w : Place). w ∷ map place_of ts) (k t)
places_taken (t ∷ ts) (suc p) h w k = ap (λ (ws : List Place). t.place ∷ ws) (places_taken ts p h w k)

pub places_moved : (ts : List Thread) (h : Thread → Thread) (f : Place → Place) → ((x : Thread) → (h x).place ≡ f x.place)
    → map place_of (map h ts) ≡ map f (map place_of ts)
places_moved [] h f k = refl
places_moved (t ∷ ts) h f k = rw (k t, places_moved ts h f k)

places_more : (ts : List Thread) (u : Thread) → map place_of (ts ++ (u ∷ [])) ≡ map place_of ts ++ (u.place ∷ [])
places_more [] u = refl
places_more (t ∷ ts) u = ap (λ (ws : List Place). t.place ∷ ws) (places_more ts u)

-- of a move of thread p by a rule, where the places were ws, and where H holds of an object whose monitor is held after it
module _ (ws : List Place) (p : ℕ) (H : ℕ → Type 0) where
  pub data Requeues : Rule → List Place → Type 0 where
    keeps : {R : Rule} → is_wait R ≡ false → Requeues R ws
    joined : Requeues e_fork (ws ++ (awake ∷ []))
    queues : (o : ℕ) → Requeues e_wait (change_at ws p (λ x. last_place o ws))
    wakes : (o : ℕ) → H o → Requeues e_notify (map (moved_up pred o) ws)
    wakes_all : (o : ℕ) → H o → Requeues e_notifyall (map (moved_up all o) ws)

pub become_places : (s : State) (p : ℕ) (e : Expression) → places_of (become s p e) ≡ places_of s
unfolding become
become_places s p e = places_kept s.threads p _ (λ x. refl)

requeued : {s : State} {p : ℕ} {R : Rule} {s₁ : State} {e : Expression} → Shape s p R s₁ e → Requeues (places_of s) p (HeldIn s₁) R (places_of s₁)
requeued {s} {p} {R} {s₁} (same n e) = along (λ (ts : List Thread). Requeues (places_of s) p (HeldIn s₁) R (map place_of ts)) (sym e) (keeps n)
requeued {s} {p} {R} {s₁} (gains h n k e) =
    along (Requeues (places_of s) p (HeldIn s₁) R) (sym (ap (map place_of) e ∙ places_kept s.threads p h (λ x. (k x).1))) (keeps n)
requeued {s} {p} {s₁ = s₁} (forks u k e) =
    along (Requeues (places_of s) p (HeldIn s₁) e_fork) (sym (ap (map place_of) e ∙ places_more s.threads u ∙ ap (λ (w : Place). places_of s ++ (w ∷ [])) k))
    joined
requeued {s} {p} {s₁ = s₁} (waits o h k e) =
    along (Requeues (places_of s) p (HeldIn s₁) e_wait) (sym (ap (map place_of) e ∙ places_taken s.threads p h _ k)) (queues o)
requeued {s} {p} {s₁ = s₁} (notifies o h k e m) =
    along (Requeues (places_of s) p (HeldIn s₁) e_notify) (sym (ap (map place_of) e ∙ places_moved s.threads h _ (λ x. (k x).1))) (wakes o m)
requeued {s} {p} {s₁ = s₁} (notifies_all o h k e m) =
    along (Requeues (places_of s) p (HeldIn s₁) e_notifyall) (sym (ap (map place_of) e ∙ places_moved s.threads h _ (λ x. (k x).1))) (wakes_all o m)

pub requeues : {g : Program} {s : State} {p : ℕ} {R : Rule} {r : Option Record} {s' : State} → Moves g s p R r s'
    → Requeues (places_of s) p (HeldIn s') R (places_of s')
unfolding become monitor
requeues {s = s} {p} {R} (EVAL K {s' = s₁} ht he c) = along (Requeues (places_of s) p (HeldIn s₁) R) (sym (become_places s₁ p _)) (requeued (shaped c))
requeues {s = s} {p} {R} (EVALᶜ K ht he c) = along (Requeues (places_of s) p (HeldIn s) R) (sym (become_places s p _)) (keeps (no_wait c))

-- ---- the invariant

-- a thread that has a place in a queue waits there
abbrev pub Attends : Thread → Type 0
Attends t = (t.place.number ≡ 0 → ⊥) → (K : Context) × (t.expression ≡ plug K (Expression.waiting t.place.object))

pub record Queues (s : State) : Type 0 where
  pub line : Line (places_of s)
  pub attends : (p : ℕ) (t : Thread) → get_elem? s.threads p ≡ some t → Attends t

-- a thread that moves is in no queue
pub mover_awake : (g : Program) (s : State) (p : ℕ) (t : Thread) → get_elem? s.threads p ≡ some t → Attends t → {R : Rule} {r : Option Record} {s' : State}
    → Moves g s p R r s' → t.place.number ≡ 0
unfolding attempt act wake_act around redex_expression
mover_awake g s p t ht w {R} {r} {s'} m = go t.place.number refl
  where
    M : Move
    M = record { rule = R; entry = r; state = s' }

    stays : (K : Context) (o n : ℕ) (c : Option Cell) → around s p K (wake_act s p t o (suc n) c) ≡ moves M → ⊥
    stays K o n none h = true≢false cc
    stays K o n (some c) h = true≢false cc

    go : (n : ℕ) → t.place.number ≡ n → t.place.number ≡ 0
    go zero e = e
    go (suc n) e =
        let o = t.place.object in
        let k = w (λ z. omega (arith, z, e)) in
        let a : attempt g s p ≡ around s p k.0 (wake_act s p t o t.place.number (monitor s o)) =
        ap (attempt_by g s p) ht ∙ ap (λ (x : Expression). attempt_at g s p t (focus top x)) k.1 ∙ ap (attempt_at g s p t) (found k.0 (Redex.waiting o)) in
        absurd (stays k.0 o n (monitor s o) (ap (λ (n : ℕ). around s p k.0 (wake_act s p t o n (monitor s o))) (sym e) ∙ sym a ∙ complete g s p m))

-- ---- every move keeps it

-- whoever stands at q, which is not the mover, after a rule: in no queue, or as before but for a place that moved up
abbrev Stood : State → ℕ → Thread → Type 0
Stood s q u = (u.place.number ≡ 0) ⊎
    ((v : Thread) × (get_elem? s.threads q ≡ some v) × (u.expression ≡ v.expression) × (u.place.object ≡ v.place.object) × (v.place.number ≡ 0
    → u.place.number ≡ 0))

moved_zero : (h : ℕ → ℕ) (o : ℕ) (w : Place) → h 0 ≡ 0 → w.number ≡ 0 → (moved_up h o w).number ≡ 0
moved_zero h o w e z = go (ℕ_discrete o w.object)
  where
    go : Dec (o ≡ w.object) → (moved_up h o w).number ≡ 0
    go (yes k) = moved_number h o w k ∙ ap h z ∙ e
    go (no k) = moved_other h o w k ∙ z

stood_moved : (s : State) (q : ℕ) (u : Thread) (f : ℕ → ℕ) (o : ℕ) (h : Thread → Thread) → f 0 ≡ 0
    → ((x : Thread) → ((h x).expression ≡ x.expression) × ((h x).place ≡ moved_up f o x.place)) → get_elem? (map h s.threads) q ≡ some u → Stood s q u
stood_moved s q u f o h e k a =
    let m = mapped h s.threads q u a in
    let v = m.0 in
    let z : u.place ≡ moved_up f o v.place = ap place_of (sym m.2) ∙ (k v).1 in
    inr (
      v,
      m.1,
      ap (λ (x : Thread). x.expression) (sym m.2) ∙ (k v).0,
      ap (λ (w : Place). w.object) z ∙ moved_object f o v.place,
      λ y. ap (λ (w : Place). w.number) z ∙ moved_zero f o v.place e y,
    )

stood : {s : State} {p : ℕ} {R : Rule} {s₁ : State} {e : Expression} → Shape s p R s₁ e → (q : ℕ) (u : Thread) → (p ≡ q → ⊥)
    → get_elem? s₁.threads q ≡ some u → Stood s q u
stood (same n e) q u d a = inr (u, sym (ap (λ (ts : List Thread). get_elem? ts q) e) ∙ a, refl, refl, λ z. z)
stood {s} {p} (gains h n k e) q u d a =
    inr (u, sym (change_other s.threads p h q d) ∙ sym (ap (λ (ts : List Thread). get_elem? ts q) e) ∙ a, refl, refl, λ z. z)
stood {s} (forks w k e) q u d a = go (added s.threads w q u (sym (ap (λ (ts : List Thread). get_elem? ts q) e) ∙ a))
  where
    go : ((q < length s.threads) × (get_elem? s.threads q ≡ some u)) ⊎ ((q ≡ length s.threads) × (w ≡ u)) → Stood s q u
    go (inl (_, b)) = inr (u, b, refl, refl, λ z. z)
    go (inr (_, b)) = inl (ap (λ (x : Thread). x.place.number) (sym b) ∙ ap (λ (y : Place). y.number) k)
stood {s} {p} (waits o h k e) q u d a =
    inr (u, sym (change_other s.threads p h q d) ∙ sym (ap (λ (ts : List Thread). get_elem? ts q) e) ∙ a, refl, refl, λ z. z)
stood {s} (notifies o h k e m) q u d a = stood_moved s q u pred o h refl k (sym (ap (λ (ts : List Thread). get_elem? ts q) e) ∙ a)
stood {s} (notifies_all o h k e m) q u d a = stood_moved s q u all o h refl k (sym (ap (λ (ts : List Thread). get_elem? ts q) e) ∙ a)

-- who stood at q, which is not the mover, stands there with the same expression
stands_on : {s : State} {p : ℕ} {R : Rule} {s₁ : State} {e : Expression} → Shape s p R s₁ e → (q : ℕ) (v : Thread) → (p ≡ q → ⊥)
    → get_elem? s.threads q ≡ some v
    → (u : Thread) × (get_elem? s₁.threads q ≡ some u) × (u.expression ≡ v.expression)
stands_on (same n e) q v d a = (v, ap (λ (ts : List Thread). get_elem? ts q) e ∙ a, refl)
stands_on {s} {p} (gains h n k e) q v d a = (v, ap (λ (ts : List Thread). get_elem? ts q) e ∙ change_other s.threads p h q d ∙ a, refl)
stands_on {s} (forks w k e) q v d a = (v, ap (λ (ts : List Thread). get_elem? ts q) e ∙ added_old s.threads w q (inside s.threads q v a) ∙ a, refl)
stands_on {s} {p} (waits o h k e) q v d a = (v, ap (λ (ts : List Thread). get_elem? ts q) e ∙ change_other s.threads p h q d ∙ a, refl)
stands_on {s} (notifies o h k e m) q v d a = (h v, ap (λ (ts : List Thread). get_elem? ts q) e ∙ mapped_at h s.threads q v a, (k v).0)
stands_on {s} (notifies_all o h k e m) q v d a = (h v, ap (λ (ts : List Thread). get_elem? ts q) e ∙ mapped_at h s.threads q v a, (k v).0)

pub stands_still : {g : Program} {s : State} {p : ℕ} {R : Rule} {r : Option Record} {s' : State} → Moves g s p R r s' → (q : ℕ) (v : Thread) → (p ≡ q → ⊥)
    → get_elem? s.threads q ≡ some v
    → (u : Thread) × (get_elem? s'.threads q ≡ some u) × (u.expression ≡ v.expression)
unfolding become
stands_still {p = p} (EVAL K {s' = s₁} ht he c) q v d a = let u = stands_on (shaped c) q v d a in (u.0, change_other s₁.threads p _ q d ∙ u.1, u.2)
stands_still {s = s} {p} (EVALᶜ K ht he c) q v d a = (v, change_other s.threads p _ q d ∙ a, refl)

-- the mover after a rule: in no queue, or before the part that waits
mover_place : {s : State} {p : ℕ} {R : Rule} {s₁ : State} {e : Expression} → Shape s p R s₁ e → (t : Thread) → get_elem? s.threads p ≡ some t
    → t.place.number ≡ 0
    → (u : Thread) → get_elem? s₁.threads p ≡ some u → (u.place.number ≡ 0) ⊎ (e ≡ Expression.waiting u.place.object)
unfolding last_place
mover_place {p = p} (same n e) t ht z u a =
    let j : some t ≡ some u = sym ht ∙ sym (ap (λ (ts : List Thread). get_elem? ts p) e) ∙ a in
    let k : t ≡ u = cc in
    inl (ap (λ (x : Thread). x.place.number) (sym k) ∙ z)
mover_place {s} {p} (gains h n k e) t ht z u a =
    let j : some (h t) ≡ some u = sym (change_same s.threads p h t ht) ∙ sym (ap (λ (ts : List Thread). get_elem? ts p) e) ∙ a in
    let q : h t ≡ u = cc in
    inl (ap (λ (x : Thread). x.place.number) (sym q) ∙ ap (λ (w : Place). w.number) (k t).1 ∙ z)
mover_place {s} {p} (forks w k e) t ht z u a =
    let j : some t ≡ some u = sym ht ∙ sym (added_old s.threads w p (inside s.threads p t ht)) ∙ sym (ap (λ (ts : List Thread). get_elem? ts p) e) ∙ a in
    let q : t ≡ u = cc in
    inl (ap (λ (x : Thread). x.place.number) (sym q) ∙ z)
mover_place {s} {p} (waits o h k e) t ht z u a =
    let j : some (h t) ≡ some u = sym (change_same s.threads p h t ht) ∙ sym (ap (λ (ts : List Thread). get_elem? ts p) e) ∙ a in
    let q : h t ≡ u = cc in
    inr (ap Expression.waiting (sym (ap (λ (w : Place). w.object) (ap place_of (sym q) ∙ k t))))
mover_place {s} {p} (notifies o h k e m) t ht z u a =
    let j : some (h t) ≡ some u = sym (mapped_at h s.threads p t ht) ∙ sym (ap (λ (ts : List Thread). get_elem? ts p) e) ∙ a in
    let q : h t ≡ u = cc in
    inl (ap (λ (w : Place). w.number) (ap place_of (sym q) ∙ (k t).1) ∙ moved_zero pred o t.place refl z)
mover_place {s} {p} (notifies_all o h k e m) t ht z u a =
    let j : some (h t) ≡ some u = sym (mapped_at h s.threads p t ht) ∙ sym (ap (λ (ts : List Thread). get_elem? ts p) e) ∙ a in
    let q : h t ≡ u = cc in
    inl (ap (λ (w : Place). w.number) (ap place_of (sym q) ∙ (k t).1) ∙ moved_zero all o t.place refl z)

module _ (g : Program) (s : State) (Q : Queues s) (p : ℕ) (t : Thread) (ht : get_elem? s.threads p ≡ some t) (z : t.place.number ≡ 0) where
  attends_after : (E : Expression) {R : Rule} {s₁ : State} {e : Expression}
      → ((o : ℕ) → e ≡ Expression.waiting o → (K : Context) × (E ≡ plug K (Expression.waiting o)))
      → Shape s p R s₁ e → (q : ℕ) (u : Thread) → get_elem? (become s₁ p E).threads q ≡ some u → Attends u
  unfolding become
  attends_after E {s₁ = s₁} {e} inside S q u a = go (ℕ_discrete p q)
    where
      B : Thread → Thread
      B x = record { self = x.self; expression = E; keys = x.keys; learnt = x.learnt; place = x.place }

      other : (p ≡ q → ⊥) → Stood s q u → Attends u
      other d (inl y) n = absurd (n y)
      other d (inr (v, b, x, o, m)) n =
          let k = Q.attends q v b (λ y. n (m y)) in
          (k.0, x ∙ k.1 ∙ ap (λ (a : ℕ). plug k.0 (Expression.waiting a)) (sym o))

      mine : (x : Thread) → get_elem? s₁.threads p ≡ some x → get_elem? (change_at s₁.threads p B) p ≡ some u
          → (x.place.number ≡ 0) ⊎ (e ≡ Expression.waiting x.place.object) → Attends u
      mine x h b (inl y) n =
          let j : some (B x) ≡ some u = sym (change_same s₁.threads p B x h) ∙ b in
          let k : B x ≡ u = cc in
          absurd (n (ap (λ (v : Thread). v.place.number) (sym k) ∙ y))
      mine x h b (inr y) n =
          let j : some (B x) ≡ some u = sym (change_same s₁.threads p B x h) ∙ b in
          let k : B x ≡ u = cc in
          let i = inside x.place.object y in
          (i.0, ap (λ (v : Thread). v.expression) (sym k) ∙ i.1 ∙ ap (λ (v : Thread). plug i.0 (Expression.waiting v.place.object)) k)

      stands : (o : Option Thread) → get_elem? s₁.threads p ≡ o → get_elem? (change_at s₁.threads p B) p ≡ some u → Attends u
      stands none h b = absurd (nobody h b)
        where
          nobody : get_elem? s₁.threads p ≡ none → get_elem? (change_at s₁.threads p B) p ≡ some u → ⊥
          nobody h b = let w = changed s₁.threads p B p u b in let j : none ≡ some w.0 = sym h ∙ w.1 in true≢false cc
      stands (some x) h b = mine x h b (mover_place S t ht z x h)

      go : Dec (p ≡ q) → Attends u
      go (yes d) = stands (get_elem? s₁.threads p) refl (rw (← d) at a)
      go (no d) = other d (stood S q u d (sym (change_other s₁.threads p B q d) ∙ a))

-- the places after a move, where the mover was in no queue
pub line_after : {ws : List Place} {p : ℕ} {H : ℕ → Type 0} {R : Rule} {ws' : List Place} → Requeues ws p H R ws' → (w : Place) → get_elem? ws p ≡ some w
    → w.number ≡ 0 → Line ws → Line ws'
line_after (keeps n) w h z l = l
line_after {ws} joined w h z l = line_awake ws l
line_after {ws} {p} (queues o) w h z l = line_behind o ws p w h z l
line_after {ws} (wakes o m) w h z l = line_notified o ws l
line_after {ws} (wakes_all o m) w h z l = line_all o ws l

module _ (g : Program) (s : State) (p : ℕ) where
  pub mover : {R : Rule} {r : Option Record} {s' : State} → Moves g s p R r s' → (t : Thread) × (get_elem? s.threads p ≡ some t)
  mover (EVAL K {t} ht he c) = (t, ht)
  mover (EVALᶜ K {t} ht he c) = (t, ht)

  module _ (Q : Queues s) where
    awake_now : (t : Thread) → get_elem? s.threads p ≡ some t → {R : Rule} {r : Option Record} {s' : State} → Moves g s p R r s' → t.place.number ≡ 0
    awake_now t ht m = mover_awake g s p t ht (Q.attends p t ht) m

    -- the mover's place
    pub mover_at : {R : Rule} {r : Option Record} {s' : State} → Moves g s p R r s' → (w : Place) × (get_elem? (places_of s) p ≡ some w) × (w.number ≡ 0)
    mover_at m = let t = mover m in (t.0.place, mapped_at place_of s.threads p t.0 t.1, awake_now t.0 t.1 m)

    attending : {R : Rule} {r : Option Record} {s' : State} → Moves g s p R r s' → (q : ℕ) (u : Thread) → get_elem? s'.threads q ≡ some u → Attends u
    attending (EVAL K {t} ht he c) q u a = attends_after g s Q p t ht (awake_now t ht (EVAL K ht he c)) _ (λ o y. (K, ap (plug K) y)) (shaped c) q u a
    attending (EVALᶜ K {t} {R = R} ht he c) q u a =
        attends_after g s Q p t ht (awake_now t ht (EVALᶜ K ht he c)) _ {R = R} {s₁ = s} {e = literal 0} (λ o y. absurd (true≢false cc))
        (same (no_wait c) refl) q u a

    pub queues_move : {R : Rule} {r : Option Record} {s' : State} → Moves g s p R r s' → Queues s'
    queues_move m = let w = mover_at m in record { line = line_after (requeues m) w.0 w.1 w.2 Q.line; attends = attending m }

pub queues_start : Queues start
unfolding start queue_length holders
queues_start = record {
  line = record { once = λ o n h. absurd (omega (arith, h, none_waits o)); empty = λ o n h. none_holds o n };
  attends = λ p t h. nobody p t h;
}
  where
    none_waits : (o : ℕ) → queue_length o (awake ∷ []) ≡ 0
    none_waits o = length_awake o []

    none_holds : (o n : ℕ) → holders o (suc n) (awake ∷ []) ≡ 0
    none_holds o n = holders_awake o n []

    nobody : (p : ℕ) (t : Thread) → get_elem? start.threads p ≡ some t → Attends t
    nobody zero t h n = let e : record { self = 0; expression = Expression.call 0 Arguments.end; keys = singleton 0; learnt = 0; place = awake } ≡ t =
        cc in absurd (n (ap (λ (x : Thread). x.place.number) (sym e)))
    nobody (suc p) t h n = absurd (true≢false cc)

-- ---- a lower place is that of an earlier wait

-- after n moves, where `since` gives the number of each thread's last wait move
pub record Ordered (ws : List Place) (n : ℕ) (since : ℕ → Option ℕ) : Type 0 where
  pub made : (p : ℕ) (w : Place) → get_elem? ws p ≡ some w → 0 < w.number → (i : ℕ) × (since p ≡ some i) × (i < n)
  pub order : (o p q : ℕ) (v w : Place) → get_elem? ws p ≡ some v → get_elem? ws q ≡ some w → In o v → In o w → v.number < w.number
      → (i j : ℕ) → since p ≡ some i → since q ≡ some j → i < j

-- a change of places that leaves those in a queue in their order, or lets them go
record Orderly (F : Place → Place) : Type 0 where
  same_object : (v : Place) → (F v).object ≡ v.object
  was_in : (v : Place) → 0 < (F v).number → 0 < v.number
  was_before : (v w : Place) → v.object ≡ w.object → 0 < (F v).number → (F v).number < (F w).number → v.number < w.number

orderly_same : Orderly (λ w. w)
orderly_same = record { same_object = λ v. refl; was_in = λ v h. h; was_before = λ v w e h k. k }

orderly_moved : (h : ℕ → ℕ) (o : ℕ) → ((n : ℕ) → 0 < h n → 0 < n) → ((m n : ℕ) → 0 < h m → h m < h n → m < n) → Orderly (moved_up h o)
orderly_moved h o f k = record { same_object = moved_object h o; was_in = in_before; was_before = before }
  where
    in_before : (v : Place) → 0 < (moved_up h o v).number → 0 < v.number
    in_before v z = go (ℕ_discrete o v.object)
      where
        go : Dec (o ≡ v.object) → 0 < v.number
        go (yes e) = f v.number (rw (moved_number h o v e) at z)
        go (no e) = rw (moved_other h o v e) at z

    before : (v w : Place) → v.object ≡ w.object → 0 < (moved_up h o v).number → (moved_up h o v).number < (moved_up h o w).number → v.number < w.number
    before v w e z l = go (ℕ_discrete o v.object)
      where
        go : Dec (o ≡ v.object) → v.number < w.number
        go (yes d) = k v.number w.number (rw (moved_number h o v d) at z) (rw (moved_number h o v d, moved_number h o w (d ∙ e)) at l)
        go (no d) = rw (moved_other h o v d, moved_other h o w (λ y. d (y ∙ sym e))) at l

orderly_notified : (o : ℕ) → Orderly (moved_up pred o)
orderly_notified o = orderly_moved pred o one two
  where
    one : (n : ℕ) → 0 < pred n → 0 < n
    one zero h = h
    one (suc n) h = omega arith

    two : (m n : ℕ) → 0 < pred m → pred m < pred n → m < n
    two zero n h k = absurd (omega (arith, h))
    two (suc m) zero h k = absurd (omega (arith, k))
    two (suc m) (suc n) h k = omega arith

orderly_all : (o : ℕ) → Orderly (moved_up all o)
orderly_all o = orderly_moved all o (λ n h. absurd (omega (arith, h))) (λ m n h k. absurd (omega (arith, h)))

-- each place in a queue is one that was there, changed so
ordered_as : {ws ws' : List Place} {n : ℕ} {since since' : ℕ → Option ℕ} (F : Place → Place) → Orderly F → ((q : ℕ) → since' q ≡ since q)
    → ((q : ℕ) (w : Place) → get_elem? ws' q ≡ some w → 0 < w.number → (v : Place) × (get_elem? ws q ≡ some v) × (F v ≡ w)) → Ordered ws n since
    → Ordered ws' (suc n) since'
ordered_as {ws} {ws'} {n} {since} {since'} F L e f O = record { made = made'; order = order' }
  where
    -- the place that it was
    as_before : (o : ℕ) (w v : Place) → F v ≡ w → In o w → In o v × (0 < (F v).number)
    as_before o w v k i = let z : 0 < (F v).number = rw k i.1 in ((i.0 ∙ ap (λ (x : Place). x.object) (sym k) ∙ L.same_object v, L.was_in v z), z)

    made' : (p : ℕ) (w : Place) → get_elem? ws' p ≡ some w → 0 < w.number → (i : ℕ) × (since' p ≡ some i) × (i < suc n)
    made' p w h z =
        let v = f p w h z in
        let m = O.made p v.0 v.1 (L.was_in v.0 (rw v.2 z)) in
        (m.0, e p ∙ m.1, let l = m.2 in omega arith)

    order' : (o p q : ℕ) (v w : Place) → get_elem? ws' p ≡ some v → get_elem? ws' q ≡ some w → In o v → In o w → v.number < w.number
        → (i j : ℕ) → since' p ≡ some i → since' q ≡ some j → i < j
    order' o p q v w hv hw iv iw l i j hi hj =
        let x = f p v hv iv.1 in
        let y = f q w hw iw.1 in
        let ix = as_before o v x.0 x.2 iv in
        let iy = as_before o w y.0 y.2 iw in
        let k : (F x.0).number < (F y.0).number = rw (x.2, y.2) l in
        O.order o p q x.0 y.0 x.1 y.1 ix.0 iy.0 (L.was_before x.0 y.0 (sym ix.0.0 ∙ iy.0.0) ix.1 k) i j (sym (e p) ∙ hi)
        (sym (e q) ∙ hj)

-- thread p waits on o
ordered_behind : (o : ℕ) (ws : List Place) (p : ℕ) (w : Place) (n : ℕ) (since : ℕ → Option ℕ) → get_elem? ws p ≡ some w → Line ws → Ordered ws n since
    → Ordered (change_at ws p (λ x. last_place o ws)) (suc n) (noted since n e_wait p)
unfolding noted is_wait last_place
ordered_behind o ws p w n since h l O =
    record {
      made = λ q v hv z. made' q v hv z (ℕ_discrete p q);
      order =
          λ a q r v u hv hu iv iu k i j hi hj. order' a q r v u hv hu iv iu k i j hi hj (ℕ_discrete p q) (ℕ_discrete p r);
    }
  where
    B : List Place
    B = change_at ws p (λ x. last_place o ws)

    last : (q : ℕ) (v : Place) → p ≡ q → get_elem? B q ≡ some v → last_place o ws ≡ v
    last q v d hv = let k : some (last_place o ws) ≡ some v = sym (change_same ws p (λ x. last_place o ws) w h) ∙ ap (get_elem? B) d ∙ hv in cc

    mine : (q : ℕ) → p ≡ q → noted since n e_wait p q ≡ some n
    mine q d = rw (eq-eqb p q d)

    others : (q : ℕ) → (p ≡ q → ⊥) → noted since n e_wait p q ≡ since q
    others q d = rw (ne_eqb p q d)

    made' : (q : ℕ) (v : Place) → get_elem? B q ≡ some v → 0 < v.number → Dec (p ≡ q) → (i : ℕ) × (noted since n e_wait p q ≡ some i) × (i < suc n)
    made' q v hv z (yes d) = (n, mine q d, omega arith)
    made' q v hv z (no d) = let m = O.made q v (sym (change_other ws p _ q d) ∙ hv) z in (m.0, others q d ∙ m.1, let k = m.2 in omega arith)

    same_number : (i j : ℕ) → some i ≡ some j → i ≡ j
    same_number i j e = cc

    order' : (a q r : ℕ) (v u : Place) → get_elem? B q ≡ some v → get_elem? B r ≡ some u → In a v → In a u → v.number < u.number
        → (i j : ℕ) → noted since n e_wait p q ≡ some i → noted since n e_wait p r ≡ some j → Dec (p ≡ q) → Dec (p ≡ r) → i < j
    order' a q r v u hv hu iv iu k i j hi hj (yes d) (yes b) =
        absurd (omega (arith, k, ap (λ (x : Place). x.number) (last q v d hv), ap (λ (x : Place). x.number) (last r u b hu)))
    order' a q r v u hv hu iv iu k i j hi hj (yes d) (no b) =
        let e : a ≡ o = iv.0 ∙ ap (λ (x : Place). x.object) (sym (last q v d hv)) in
        let m = within ws l o r u (sym (change_other ws p _ r b) ∙ hu) (sym e ∙ iu.0, iu.1) in
        absurd (omega (arith, k, m, ap (λ (x : Place). x.number) (last q v d hv)))
    order' a q r v u hv hu iv iu k i j hi hj (no d) (yes b) =
        let m = O.made q v (sym (change_other ws p _ q d) ∙ hv) iv.1 in
        let e = same_number m.0 i (sym m.1 ∙ sym (others q d) ∙ hi) in
        let c = same_number n j (sym (mine r b) ∙ hj) in
        omega (arith, m.2, e, c)
    order' a q r v u hv hu iv iu k i j hi hj (no d) (no b) =
        O.order a q r v u (sym (change_other ws p _ q d) ∙ hv) (sym (change_other ws p _ r b) ∙ hu) iv iu k i j (sym (others q d) ∙ hi) (sym (others r b) ∙ hj)

not_noted : (since : ℕ → Option ℕ) (n : ℕ) (R : Rule) (p : ℕ) → is_wait R ≡ false → (q : ℕ) → noted since n R p q ≡ since q
unfolding noted
not_noted since n R p e q = rw e

ordered_after : {ws : List Place} {p : ℕ} {H : ℕ → Type 0} {R : Rule} {ws' : List Place} → Requeues ws p H R ws' → (w : Place) → get_elem? ws p ≡ some w
    → Line ws → (n : ℕ) (since : ℕ → Option ℕ)
    → Ordered ws n since → Ordered ws' (suc n) (noted since n R p)
unfolding is_wait
ordered_after {p = p} {R = R} (keeps k) w h l n since O = ordered_as (λ w. w) orderly_same (not_noted since n R p k) (λ q v hv z. (v, hv, refl)) O
ordered_after {ws} {p} joined w h l n since O =
    ordered_as (λ w. w) orderly_same (not_noted since n e_fork p refl) (λ q v hv z. old q v z (added ws awake q v hv)) O
  where
    old : (q : ℕ) (v : Place) → 0 < v.number → ((q < length ws) × (get_elem? ws q ≡ some v)) ⊎ ((q ≡ length ws) × (awake ≡ v))
        → (x : Place) × (get_elem? ws q ≡ some x) × (x ≡ v)
    old q v z (inl (_, e)) = (v, e, refl)
    old q v z (inr (_, e)) = absurd (omega (arith, z, ap (λ (x : Place). x.number) e))
ordered_after {ws} {p} (queues o) w h l n since O = ordered_behind o ws p w n since h l O
ordered_after {ws} {p} (wakes o m) w h l n since O =
    ordered_as (moved_up pred o) (orderly_notified o) (not_noted since n e_notify p refl) (λ q v hv z. mapped (moved_up pred o) ws q v hv) O
ordered_after {ws} {p} (wakes_all o m) w h l n since O =
    ordered_as (moved_up all o) (orderly_all o) (not_noted since n e_notifyall p refl) (λ q v hv z. mapped (moved_up all o) ws q v hv) O

-- ---- executions

-- the queues where an execution ends that comes after n moves
pub record Kept (s : State) (since : ℕ → Option ℕ) : Type 0 where
  pub queues : Queues s
  pub count : ℕ
  pub ordered : Ordered (places_of s) count since

kept_run : {g : Program} {s : State} {ps : List ℕ} {r : Run} (x : Execution g s ps r) (since : ℕ → Option ℕ) (n : ℕ) → Queues s → Ordered (places_of s) n since
    → Kept r.final (last_wait_after since n x)
unfolding last_wait_after stopped after_pass after_move
kept_run ends since n Q O = record { queues = Q; count = n; ordered = O }
kept_run (passes h x) since n Q O = kept_run x since n Q O
kept_run (lacks_key_lem h) since n Q O = record { queues = Q; count = n; ordered = O }
kept_run (no_room_lem h e) since n Q O = record { queues = Q; count = n; ordered = O }
kept_run {g} (Execution.moves {s} {p = p} {R = R} h k x) since n Q O =
    let w = mover_at g s p Q h in
    kept_run x (noted since n R p) (suc n) (queues_move g s p Q h) (ordered_after (requeues h) w.0 w.1 Q.line n since O)

pub kept_queues : {g : Program} {ps : List ℕ} {r : Run} (x : Execution g start ps r) → Kept r.final (last_wait x)
unfolding last_wait start
kept_queues x = kept_run x (λ p. none) 0 queues_start
    (record { made = λ p w h z. absurd (nobody p w h z); order = λ o p q v w hv hw iv iw l i j hi hj. absurd (nobody p v hv iv.1) })
  where
    nobody : (p : ℕ) (w : Place) → get_elem? (awake ∷ []) p ≡ some w → 0 < w.number → ⊥
    nobody zero w h z = let e : awake ≡ w = cc in omega (arith, z, ap (λ (x : Place). x.number) e)
    nobody (suc p) w h z = true≢false cc
