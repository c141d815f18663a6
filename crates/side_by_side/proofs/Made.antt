-- A new object and a new thread, marked, keep the correspondence.
use Prim.Native.Nat.{ℕ, ◌<◌}
use native.Mathlib.Omega.{arith}
use native.Mathlib.Decide.{ℕ_discrete}
use mathlib.Core.Path.{◌≡◌, refl, sym, ap, ◌∙◌, subst as along}
use mathlib.Core.Bool.{Bool, true, false, cond}
use mathlib.Core.List.{List, [], ◌∷◌, ◌++◌}
use mathlib.Core.Logic.{◌⊎◌, inl, inr}
use mathlib.Core.Option.{Option, some}
use lib.Dec.{eqb, eqb→eq}
use lib.ListN.{length, get_elem?}
use Rattle.run_keys.specs.Keys.{empty, singleton, is_empty}
use Rattle.run_keys.proofs.KeyLaws.{holds_singleton}
use Rattle.plan_packed.specs.Syntax.{Program}
use Rattle.log_records.specs.Record.{Record}
use Rattle.log_order.proofs.Ports.{of_thread, of_monitor}
use Rattle.log_order.proofs.KeySets.{put, put_same, put_other}
use Rattle.rules.specs.State.{Cell, Object, Thread, State, fresh, fresh_fields, fresh_object, find_field, field_of, monitor_of, lookup, monitor, add_object}
use Rattle.rules.specs.State.{add_thread}
use Rattle.rules.proofs.StateLaws.{inside, added, added_old, added_new, length_added}
use Rattle.rules.proofs.Invariant.{length_new}
use Rattle.side_by_side.proofs.Like.{Naming, Like}
use Rattle.side_by_side.proofs.Correspondence.{Marks, Live, KeysIn, Mirror, FieldLike, Corresponds}
use Rattle.side_by_side.proofs.Likeness.{Extends, wider}

-- a name for one more
module _ (ω : Naming) (n m : ℕ) (below : (o a : ℕ) → ω o ≡ some a → o < n) where
  abbrev pub named : Naming
  named = put ω n (some m)

  pub named_new : named n ≡ some m
  named_new = put_same ω n (some m)

  pub named_old : Extends ω named
  named_old o a h = put_other ω n (some m) o (λ e. let b = below o a h in omega arith) ∙ h

  pub named_cases : (o a : ℕ) → named o ≡ some a → ((n ≡ o) × (m ≡ a)) ⊎ ((n ≡ o → ⊥) × (ω o ≡ some a))
  named_cases o a h = go (ℕ_discrete n o)
    where
      go : Dec (n ≡ o) → ((n ≡ o) × (m ≡ a)) ⊎ ((n ≡ o → ⊥) × (ω o ≡ some a))
      go (yes e) = let k : some m ≡ some a = sym named_new ∙ ap named e ∙ h in inl (e, cc)
      go (no e) = inr (e, sym (put_other ω n (some m) o e) ∙ h)

  pub named_apart : ((o a : ℕ) → ω o ≡ some a → a < m) → ((o o' a : ℕ) → ω o ≡ some a → ω o' ≡ some a → o ≡ o') → (o o' a : ℕ) → named o ≡ some a
      → named o' ≡ some a → o ≡ o'
  named_apart under apart o o' a h h' = go (named_cases o a h) (named_cases o' a h')
    where
      go : ((n ≡ o) × (m ≡ a)) ⊎ ((n ≡ o → ⊥) × (ω o ≡ some a)) → ((n ≡ o') × (m ≡ a)) ⊎ ((n ≡ o' → ⊥) × (ω o' ≡ some a)) → o ≡ o'
      go (inl (x, y)) (inl (z, w)) = sym x ∙ z
      go (inl (x, y)) (inr (z, w)) = let b = under o' a w in absurd (omega arith)
      go (inr (x, y)) (inl (z, w)) = let b = under o a y in absurd (omega arith)
      go (inr (x, y)) (inr (z, w)) = apart o o' a y w

-- what a new object has, whatever the state
new_field : (s : State) (fs : List ℕ) (f : ℕ) → lookup (add_object s (fresh_object fs)) (length s.objects) f ≡ find_field (fresh_fields fs) f
unfolding lookup add_object fresh_object field_of
new_field s fs f = rw (added_new s.objects (fresh_object fs))

new_lock : (s : State) (fs : List ℕ) → monitor (add_object s (fresh_object fs)) (length s.objects) ≡ some fresh
unfolding monitor add_object fresh_object monitor_of
new_lock s fs = rw (added_new s.objects (fresh_object fs))

old_field : (s : State) (fs : List ℕ) (o f : ℕ) → o < length s.objects → lookup (add_object s (fresh_object fs)) o f ≡ lookup s o f
unfolding lookup add_object
old_field s fs o f h = ap (λ (x : Option Object). field_of x f) (added_old s.objects (fresh_object fs) o h)

old_lock : (s : State) (fs : List ℕ) (o : ℕ) → o < length s.objects → monitor (add_object s (fresh_object fs)) o ≡ monitor s o
unfolding monitor add_object
old_lock s fs o h = ap monitor_of (added_old s.objects (fresh_object fs) o h)

module _ (g : Program) (S : Marks) (H : List Record) (ω τ κ : Naming) (s c : State) (C : Corresponds g S H ω τ κ s c) (fs : List ℕ) where
  abbrev N : ℕ
  N = length s.objects

  abbrev M : ℕ
  M = length c.objects

  abbrev s₁ : State
  s₁ = add_object s (fresh_object fs)

  abbrev c₁ : State
  c₁ = add_object c (fresh_object fs)

  below : (o a : ℕ) → ω o ≡ some a → o < N
  below o a h = (C.names.objects o a h).0

  abbrev pub ω₁ : Naming
  ω₁ = put ω N (some M)

  pub wide : Extends ω ω₁
  wide = named_old ω N M below

  only_zero_lem : KeysIn κ (singleton 0) (singleton 0)
  only_zero_lem k h = let e : k ≡ 0 = eqb→eq k 0 (rw (holds_singleton 0 k) at h) in (0, ap κ e ∙ C.names.key_zero, rw (holds_singleton 0 0) tt)

  fresh_like : (f : ℕ) (o : ℕ) → FieldLike g S H ω₁ κ o f fresh fresh
  unfolding fresh
  fresh_like f o = record {
    plain = λ v k k' h q.
        let e : k ≡ 0 = eqb→eq k 0 (rw (holds_singleton 0 k) at h) in
        let z : some 0 ≡ some k' = sym C.names.key_zero ∙ ap κ (sym e) ∙ q in
        let y : ◌≡◌ {A = ℕ} 0 k' = cc in
        (ap singleton y, wide 0 0 C.names.zero_kept);
    volatile = λ v l. (only_zero_lem, wide 0 0 C.names.zero_kept);
  }

  -- a field of a fresh object is fresh
  fresh_found : (l : List ℕ) (f : ℕ) (d : Cell) → find_field (fresh_fields l) f ≡ some d → fresh ≡ d
  unfolding find_field fresh_fields
  fresh_found [] f d h = absurd (let z : ◌≡◌ {A = ℕ} 0 1 = cc in omega arith)
  fresh_found (x ∷ l) f d h = go (eqb x f) h (fresh_found l f d)
    where
      go : (b : Bool) → cond b (some fresh) (find_field (fresh_fields l) f) ≡ some d → (find_field (fresh_fields l) f ≡ some d → fresh ≡ d) → fresh ≡ d
      go true h k = cc
      go false h k = k h

  new_fields : (o a f : ℕ) (d : Cell) → lookup s₁ o f ≡ some d → ((N ≡ o) × (M ≡ a)) ⊎ ((N ≡ o → ⊥) × (ω o ≡ some a))
      → (d' : Cell) × (lookup c₁ a f ≡ some d') × FieldLike g S H ω₁ κ o f d d'
  new_fields o a f d e (inl (x, y)) =
      let h : find_field (fresh_fields fs) f ≡ some d = sym (new_field s fs f) ∙ ap (λ (z : ℕ). lookup s₁ z f) x ∙ e in
      let k : fresh ≡ d = fresh_found fs f d h in (
        fresh,
        ap (λ (z : ℕ). lookup c₁ z f) (sym y) ∙ new_field c fs f ∙ h ∙ ap {B = Option Cell} some (sym k),
        along (λ (z : Cell). FieldLike g S H ω₁ κ o f z fresh) k (fresh_like f o),
      )
  new_fields o a f d e (inr (x, n)) =
      let b = C.names.objects o a n in
      let r = C.fields o a f d n (sym (old_field s fs o f b.0) ∙ e) in (
        r.0,
        old_field c fs a f b.1 ∙ r.1,
        record {
          plain = λ v k k' h q. let w = r.2.plain v k k' h q in (w.0, wide d.value r.0.value w.1);
          volatile = λ v l. let w = r.2.volatile v l in (w.0, wide d.value r.0.value w.1);
        },
      )

  new_free : (o a : ℕ) (d : Cell) → monitor s₁ o ≡ some d → is_empty d.keys ≡ false → Live S H (of_monitor o)
      → ((N ≡ o) × (M ≡ a)) ⊎ ((N ≡ o → ⊥) × (ω o ≡ some a))
      → (d' : Cell) × (monitor c₁ a ≡ some d') × (is_empty d'.keys ≡ false) × KeysIn κ d.keys d'.keys
  unfolding fresh is_empty
  new_free o a d m e l (inl (x, y)) =
      let h : some fresh ≡ some d = sym (new_lock s fs) ∙ ap (λ (z : ℕ). monitor s₁ z) x ∙ m in
      let k : fresh ≡ d = cc in
      (fresh, ap (λ (z : ℕ). monitor c₁ z) (sym y) ∙ new_lock c fs, refl, along (λ (z : Cell). KeysIn κ z.keys (singleton 0)) k only_zero_lem)
  new_free o a d m e l (inr (x, n)) =
      let b = C.names.objects o a n in
      let r = C.free o a d n (sym (old_lock s fs o b.0) ∙ m) e l in
      (r.0, old_lock c fs a b.1 ∙ r.1, r.2, r.3)

  new_held : (inside-selves : (p : ℕ) (t : Thread) → get_elem? s.threads p ≡ some t → t.self < N) (o a p b : ℕ) (t : Thread)
      → get_elem? s.threads p ≡ some t → Live S H (of_thread p) → monitor s₁ o ≡ some (record { keys = empty; value = t.self }) → ω₁ t.self ≡ some b
      → ((N ≡ o) × (M ≡ a)) ⊎ ((N ≡ o → ⊥) × (ω o ≡ some a)) → monitor c₁ a ≡ some (record { keys = empty; value = b })
  unfolding fresh
  new_held selves o a p b t h l m e (inl (x, y)) =
      let k : some fresh ≡ some (record { keys = empty; value = t.self }) = sym (new_lock s fs) ∙ ap (λ (z : ℕ). monitor s₁ z) x ∙ m in
      let j : fresh ≡ record { keys = empty; value = t.self } = cc in
      let z : ◌≡◌ {A = ℕ} 1 0 = ap (λ (d : Cell). d.keys) j in
      absurd (omega arith)
  new_held selves o a p b t h l m e (inr (x, n)) =
      let w = C.names.objects o a n in
      old_lock c fs a w.1
      ∙ C.held o a p b t n h l (sym (old_lock s fs o w.0) ∙ m) (sym (put_other ω N (some M) t.self (λ q. let v = selves p t h in omega arith)) ∙ e)

  pub corr_new : ((p : ℕ) (t : Thread) → get_elem? s.threads p ≡ some t → t.self < N) → Corresponds g S H ω₁ τ κ s₁ c₁
  unfolding add_object
  corr_new selves = record {
    names = record {
      zero_kept = wide 0 0 C.names.zero_kept;
      objects = λ o a h. there o a (named_cases ω N M below o a h);
      objects_apart = named_apart ω N M below (λ o a h. (C.names.objects o a h).1) C.names.objects_apart;
      threads = C.names.threads;
      threads_apart = C.names.threads_apart;
      key_zero = C.names.key_zero;
      keys = C.names.keys;
      fewer_objects = let b = C.names.fewer_objects in omega (arith, length_new s fs, length_new c fs);
      fewer_threads = C.names.fewer_threads;
      fewer_keys = C.names.fewer_keys;
    };
    mirrors = λ p t l h. let m = C.mirrors p t l h in record {
      number = m.number;
      thread = m.thread;
      named = m.named;
      there = m.there;
      expr_like =
          wider ω ω₁ wide m.expr_like;
      self_like = wide t.self m.thread.self m.self_like;
      keys_like = m.keys_like;
    };
    fields = λ o a f d n e. new_fields o a f d e (named_cases ω N M below o a n);
    free = λ o a d n m e l. new_free o a d m e l (named_cases ω N M below o a n);
    held = λ o a p b t n h l m e. new_held selves o a p b t h l m e (named_cases ω N M below o a n);
  }
    where
      there : (o a : ℕ) → ((N ≡ o) × (M ≡ a)) ⊎ ((N ≡ o → ⊥) × (ω o ≡ some a)) → (o < length s₁.objects) × (a < length c₁.objects)
      there o a (inl (x, y)) = (omega (arith, length_new s fs), omega (arith, length_new c fs))
      there o a (inr (x, n)) = let b = C.names.objects o a n in let d = b.0 in let e =
          b.1 in (omega (arith, length_new s fs), omega (arith, length_new c fs))

-- ---- a thread

module _ (g : Program) (S : Marks) (H : List Record) (ω τ κ : Naming) (s c : State) (C : Corresponds g S H ω τ κ s c) (t u : Thread)
    (exprs : Like ω t.expression u.expression) (selves : ω t.self ≡ some u.self) (keys : KeysIn κ t.keys u.keys)
    (unheld : (o : ℕ) → monitor s o ≡ some (record { keys = empty; value = t.self }) → ⊥) where
  abbrev P : ℕ
  P = length s.threads

  abbrev Q : ℕ
  Q = length c.threads

  under : (p q : ℕ) → τ p ≡ some q → p < P
  under p q h = (C.names.threads p q h).0

  abbrev pub τ₁ : Naming
  τ₁ = put τ P (some Q)

  pub corr_thread : Corresponds g S H ω τ₁ κ (add_thread s t) (add_thread c u)
  unfolding add_thread lookup monitor
  corr_thread = record {
    names = record {
      zero_kept = C.names.zero_kept;
      objects = C.names.objects;
      objects_apart = C.names.objects_apart;
      threads = λ p q h. there p q (named_cases τ P Q under p q h);
      threads_apart = named_apart τ P Q under (λ p q h. (C.names.threads p q h).1) C.names.threads_apart;
      key_zero = C.names.key_zero;
      keys = C.names.keys;
      fewer_objects = C.names.fewer_objects;
      fewer_threads = let b = C.names.fewer_threads in omega (arith, length_added s.threads t, length_added c.threads u);
      fewer_keys = C.names.fewer_keys;
    };
    mirrors = λ p w l h. mirror p w l (added s.threads t p w h);
    fields = λ o a f d n e. C.fields o a f d n e;
    free = λ o a d n m e l. C.free o a d n m e l;
    held = λ o a p b w n h l m e. held' o a p b w n l m e (added s.threads t p w h);
  }
    where
      there : (p q : ℕ) → ((P ≡ p) × (Q ≡ q)) ⊎ ((P ≡ p → ⊥) × (τ p ≡ some q)) → (p < length (s.threads ++ (t ∷ []))) × (q < length (c.threads ++ (u ∷ [])))
      there p q (inl (x, y)) = (omega (arith, length_added s.threads t), omega (arith, length_added c.threads u))
      there p q (inr (x, n)) = let b = C.names.threads p q n in let d = b.0 in let e =
          b.1 in (omega (arith, length_added s.threads t), omega (arith, length_added c.threads u))

      mirror : (p : ℕ) (w : Thread) → Live S H (of_thread p) → ((p < P) × (get_elem? s.threads p ≡ some w)) ⊎ ((p ≡ P) × (t ≡ w))
          → Mirror ω τ₁ κ (c.threads ++ (u ∷ [])) p w
      mirror p w l (inl (b, h)) =
          let m = C.mirrors p w l h in
          record {
            number = m.number;
            thread = m.thread;
            named = named_old τ P Q under p m.number m.named;
            there =
                added_old c.threads u m.number (inside c.threads m.number m.thread m.there) ∙ m.there;
            expr_like = m.expr_like;
            self_like =
                m.self_like;
            keys_like = m.keys_like;
          }
      mirror p w l (inr (b, h)) =
          record {
            number = Q;
            thread = u;
            named = ap τ₁ b ∙ named_new τ P Q under;
            there = added_new c.threads u;
            expr_like =
                along (λ (z : Thread). Like ω z.expression u.expression) h exprs;
            self_like = ap ω (ap (λ (z : Thread). z.self) (sym h)) ∙ selves;
            keys_like = along (λ (z : Thread). KeysIn κ z.keys u.keys) h keys;
          }

      held' : (o a p b : ℕ) (w : Thread) → ω o ≡ some a → Live S H (of_thread p) → monitor s o ≡ some (record { keys = empty; value = w.self })
          → ω w.self ≡ some b → ((p < P) × (get_elem? s.threads p ≡ some w)) ⊎ ((p ≡ P) × (t ≡ w))
          → monitor c a ≡ some (record { keys = empty; value = b })
      held' o a p b w n l m e (inl (_, h)) = C.held o a p b w n h l m e
      held' o a p b w n l m e (inr (_, h)) = absurd (unheld o (m ∙ ap (λ (z : Thread). some (record { keys = empty; value = z.self })) (sym h)))
