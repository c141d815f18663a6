-- The parts of a marked move that change the heap keep the correspondence.
use Prim.Native.Nat.{ℕ, suc, ◌<◌, ◌≤◌}
use native.Mathlib.Omega.{arith}
use native.Mathlib.Decide.{ℕ_discrete}
use mathlib.Core.Path.{◌≡◌, sym, ap, ◌∙◌, subst as along}
use mathlib.Core.Bool.{false, true≢false}
use mathlib.Core.List.{List}
use mathlib.Core.Logic.{◌⊎◌, inl, inr}
use mathlib.Core.Option.{Option, some}
use lib.Dec.{T}
use lib.ListN.{length, get_elem?}
use Rattle.run_keys.specs.Keys.{Keys, empty, holds, is_empty}
use Rattle.plan_packed.specs.Syntax.{Program}
use Rattle.log_records.specs.Record.{Record}
use Rattle.log_order.proofs.Ports.{of_thread, of_monitor}
use Rattle.log_order.proofs.KeySets.{put, put_other}
use Rattle.rules.specs.State.{Cell, Thread, State, lookup, monitor, store, store_monitor, use_key}
use Rattle.rules.specs.Rules.{is_volatile}
use Rattle.rules.proofs.StateLaws.{there, change_length, store_same, store_other, store_monitor_lem, lock_same, lock_other, lock_lookup}
use Rattle.side_by_side.proofs.Like.{Naming}
use Rattle.side_by_side.proofs.Correspondence.{Marks, Live, KeysIn, FieldLike, Corresponds}
use Rattle.side_by_side.proofs.Likeness.{Extends}

-- ---- a field

module _ (g : Program) (S : Marks) (H : List Record) (ω τ κ : Naming) (s c : State) (C : Corresponds g S H ω τ κ s c)
    (o a f : ℕ) (d₀ d₀' d₁ d₁' : Cell) (oa : ω o ≡ some a) (was : lookup s o f ≡ some d₀) (was' : lookup c a f ≡ some d₀')
    (like : FieldLike g S H ω κ o f d₁ d₁') where
  field' : (x y k : ℕ) (d : Cell) → ω x ≡ some y → lookup (store s o f d₁) x k ≡ some d → Dec (o ≡ x) → Dec (f ≡ k)
      → (d' : Cell) × (lookup (store c a f d₁') y k ≡ some d') × FieldLike g S H ω κ x k d d'
  field' x y k d n e (yes p) (yes q) =
      let ya : some a ≡ some y = sym oa ∙ ap ω p ∙ n in
      let ay : a ≡ y = cc in
      let e₁ : some d₁ ≡ some d = sym (store_same s o f d₁ d₀ was) ∙ ap (λ (z : ℕ). lookup (store s o f d₁) o z) q
      ∙ ap (λ (z : ℕ). lookup (store s o f d₁) z k) p ∙ e in
      let dd : d₁ ≡ d = cc in (
        d₁',
        ap (λ (z : ℕ). lookup (store c a f d₁') z k) (sym ay) ∙ ap (λ (z : ℕ). lookup (store c a f d₁') a z) (sym q) ∙ store_same c a f d₁' d₀' was',
        along (λ (z : Cell). FieldLike g S H ω κ x k z d₁') dd
            (along (λ (z : ℕ). FieldLike g S H ω κ z k d₁ d₁') p (along (λ (z : ℕ). FieldLike g S H ω κ o z d₁ d₁') q like)),
      )
  field' x y k d n e (yes p) (no q) =
      let r = C.fields x y k d n (sym (store_other s o f d₁ x k (λ _ b. q b)) ∙ e) in
      (r.0, store_other c a f d₁' y k (λ _ b. q b) ∙ r.1, r.2)
  field' x y k d n e (no p) q =
      let r = C.fields x y k d n (sym (store_other s o f d₁ x k (λ b _. p b)) ∙ e) in
      (r.0, store_other c a f d₁' y k (λ b _. p (C.names.objects_apart o x a oa (n ∙ ap {B = Option ℕ} some (sym b)))) ∙ r.1, r.2)

  pub corr_store : Corresponds g S H ω τ κ (store s o f d₁) (store c a f d₁')
  unfolding store
  corr_store = record {
    names = record {
      zero_kept = C.names.zero_kept;
      objects = λ x y e. let b =
          C.names.objects x y e in
          (along (λ (n : ℕ). x < n) (sym (change_length s.objects o _)) b.0, along (λ (n : ℕ). y < n) (sym (change_length c.objects a _)) b.1);
      objects_apart = C.names.objects_apart;
      threads = C.names.threads;
      threads_apart = C.names.threads_apart;
      key_zero = C.names.key_zero;
      keys = C.names.keys;
      fewer_objects = along (λ (n : ℕ). n ≤ length (store s o f d₁).objects) (sym (change_length c.objects a _))
          (along (λ (n : ℕ). length c.objects ≤ n) (sym (change_length s.objects o _)) C.names.fewer_objects);
      fewer_threads = C.names.fewer_threads;
      fewer_keys = C.names.fewer_keys;
    };
    mirrors = λ p t l h. C.mirrors p t l h;
    fields = λ x y k d n e. field' x y k d n e (ℕ_discrete o x) (ℕ_discrete f k);
    free = λ x y d n m e l. let r = C.free x y d n (sym (store_monitor_lem s o f d₁ x) ∙ m) e l in (r.0, store_monitor_lem c a f d₁' y ∙ r.1, r.2, r.3);
    held = λ x y p b t n h l m e. store_monitor_lem c a f d₁' y ∙ C.held x y p b t n h l (sym (store_monitor_lem s o f d₁ x) ∙ m) e;
  }

-- ---- a monitor

-- ∅ is not full
pub empty_full : is_empty empty ≡ false → ⊥
unfolding is_empty
empty_full e = true≢false e

module _ (g : Program) (S : Marks) (H : List Record) (ω τ κ : Naming) (s c : State) (C : Corresponds g S H ω τ κ s c)
    (o a : ℕ) (d₀ d₀' d₁ d₁' : Cell) (oa : ω o ≡ some a) (was : monitor s o ≡ some d₀) (was' : monitor c a ≡ some d₀')
    (freeLike : is_empty d₁.keys ≡ false → (is_empty d₁'.keys ≡ false) × KeysIn κ d₁.keys d₁'.keys)
    (heldLike : (x b : ℕ) → d₁ ≡ record { keys = empty; value = x } → ω x ≡ some b → d₁' ≡ record { keys = empty; value = b }) where
  abbrev s₁ : State
  s₁ = store_monitor s o d₁

  abbrev c₁ : State
  c₁ = store_monitor c a d₁'

  which : (x y : ℕ) (d : Cell) → ω x ≡ some y → monitor s₁ x ≡ some d
      → ((d₁ ≡ d) × (monitor c₁ y ≡ some d₁')) ⊎ ((monitor s x ≡ some d) × (monitor c₁ y ≡ monitor c y))
  which x y d n m = go (ℕ_discrete o x)
    where
      go : Dec (o ≡ x) → ((d₁ ≡ d) × (monitor c₁ y ≡ some d₁')) ⊎ ((monitor s x ≡ some d) × (monitor c₁ y ≡ monitor c y))
      go (yes p) =
          let ya : some a ≡ some y = sym oa ∙ ap ω p ∙ n in
          let ay : a ≡ y = cc in
          let e₁ : some d₁ ≡ some d = sym (lock_same s o d₁ d₀ was) ∙ ap (λ (z : ℕ). monitor s₁ z) p ∙ m in
          inl (cc, ap (λ (z : ℕ). monitor c₁ z) (sym ay) ∙ lock_same c a d₁' d₀' was')
      go (no p) = inr (sym (lock_other s o d₁ x p) ∙ m, lock_other c a d₁' y (λ b. p (C.names.objects_apart o x a oa (n ∙ ap {B = Option ℕ} some (sym b)))))

  pub corr_lock : Corresponds g S H ω τ κ s₁ c₁
  unfolding store_monitor
  corr_lock = record {
    names = record {
      zero_kept = C.names.zero_kept;
      objects = λ x y e. let b =
          C.names.objects x y e in
          (along (λ (n : ℕ). x < n) (sym (change_length s.objects o _)) b.0, along (λ (n : ℕ). y < n) (sym (change_length c.objects a _)) b.1);
      objects_apart = C.names.objects_apart;
      threads = C.names.threads;
      threads_apart = C.names.threads_apart;
      key_zero = C.names.key_zero;
      keys = C.names.keys;
      fewer_objects = along (λ (n : ℕ). n ≤ length s₁.objects) (sym (change_length c.objects a _))
          (along (λ (n : ℕ). length c.objects ≤ n) (sym (change_length s.objects o _)) C.names.fewer_objects);
      fewer_threads = C.names.fewer_threads;
      fewer_keys = C.names.fewer_keys;
    };
    mirrors = λ p t l h. C.mirrors p t l h;
    fields = λ x y k d n e. let r = C.fields x y k d n (sym (lock_lookup s o d₁ x k) ∙ e) in (r.0, lock_lookup c a d₁' y k ∙ r.1, r.2);
    free = λ x y d n m e l. free' x y d n e l (which x y d n m);
    held = λ x y p b t n h l m e. held' x y p b t n h l e (which x y (record { keys = empty; value = t.self }) n m);
  }
    where
      free' : (x y : ℕ) (d : Cell) → ω x ≡ some y → is_empty d.keys ≡ false → Live S H (of_monitor x)
          → ((d₁ ≡ d) × (monitor c₁ y ≡ some d₁')) ⊎ ((monitor s x ≡ some d) × (monitor c₁ y ≡ monitor c y))
          → (d' : Cell) × (monitor c₁ y ≡ some d') × (is_empty d'.keys ≡ false) × KeysIn κ d.keys d'.keys
      free' x y d n e l (inl (q, m)) =
          let r = freeLike (ap (λ (z : Cell). is_empty z.keys) q ∙ e) in
          (d₁', m, r.0, along (λ (z : Cell). KeysIn κ z.keys d₁'.keys) q r.1)
      free' x y d n e l (inr (m, k)) = let r = C.free x y d n m e l in (r.0, k ∙ r.1, r.2, r.3)

      held' : (x y p b : ℕ) (t : Thread) → ω x ≡ some y → get_elem? s.threads p ≡ some t → Live S H (of_thread p) → ω t.self ≡ some b
          → ((d₁ ≡ record { keys = empty; value = t.self }) × (monitor c₁ y ≡ some d₁')) ⊎
          ((monitor s x ≡ some (record { keys = empty; value = t.self })) × (monitor c₁ y ≡ monitor c y))
          → monitor c₁ y ≡ some (record { keys = empty; value = b })
      held' x y p b t n h l e (inl (q, m)) = m ∙ ap {B = Option Cell} some (heldLike t.self b q e)
      held' x y p b t n h l e (inr (m, k)) = k ∙ C.held x y p b t n h l m e

-- ---- a key

pub keys_wider : (κ κ' : Naming) → Extends κ κ' → (W W' : Keys) → KeysIn κ W W' → KeysIn κ' W W'
keys_wider κ κ' x W W' h k t = let r = h k t in (r.0, x k r.0 r.1, r.2)

module _ (g : Program) (S : Marks) (H : List Record) (ω τ κ : Naming) (s c : State) (C : Corresponds g S H ω τ κ s c)
    (small : (o f : ℕ) (d : Cell) → lookup s o f ≡ some d → is_volatile g f ≡ false → (k : ℕ) → T (holds d.keys k) → k < s.next_key)
    (positive : 0 < s.next_key) where
  abbrev pub κ₁ : Naming
  κ₁ = put κ s.next_key (some c.next_key)

  pub longer : Extends κ κ₁
  longer k k' h = put_other κ s.next_key (some c.next_key) k (λ e. let b = C.names.keys k k' h in omega arith) ∙ h

  old : (k k' : ℕ) → k < s.next_key → κ₁ k ≡ some k' → κ k ≡ some k'
  old k k' l h = sym (put_other κ s.next_key (some c.next_key) k (λ e. omega arith)) ∙ h

  used : (k k' : ℕ) → κ₁ k ≡ some k' → Dec (s.next_key ≡ k) → k < suc s.next_key
  used k k' h (yes e) = omega arith
  used k k' h (no e) = let b = C.names.keys k k' (sym (put_other κ s.next_key (some c.next_key) k e) ∙ h) in omega arith

  pub corr_key : Corresponds g S H ω τ κ₁ (use_key s) (use_key c)
  unfolding use_key lookup monitor
  corr_key = record {
    names = record {
      zero_kept = C.names.zero_kept;
      objects = C.names.objects;
      objects_apart = C.names.objects_apart;
      threads = C.names.threads;
      threads_apart = C.names.threads_apart;
      key_zero = longer 0 0 C.names.key_zero;
      keys = λ k k' h. used k k' h (ℕ_discrete s.next_key k);
      fewer_objects = C.names.fewer_objects;
      fewer_threads = C.names.fewer_threads;
      fewer_keys = let b = C.names.fewer_keys in omega arith;
    };
    mirrors = λ p t l h. let m = C.mirrors p t l h in record {
      number = m.number;
      thread = m.thread;
      named = m.named;
      there = m.there;
      expr_like =
          m.expr_like;
      self_like = m.self_like;
      keys_like = keys_wider κ κ₁ longer t.keys m.thread.keys m.keys_like;
    };
    fields = λ o a f d n e. let r =
        C.fields o a f d n e in (
          r.0,
          r.1,
          record {
            plain = λ v k k' h q. r.2.plain v k k' h (old k k' (small o f d e v k h) q);
            volatile = λ v l. let w =
                r.2.volatile v l in (keys_wider κ κ₁ longer d.keys r.0.keys w.0, w.1);
          },
        );
    free = λ o a d n m e l. let r = C.free o a d n m e l in (r.0, r.1, r.2, keys_wider κ κ₁ longer d.keys r.0.keys r.3);
    held = λ o a p b t n h l m e. C.held o a p b t n h l m e;
  }
