-- A move that is not marked is not seen by the other run.
use Prim.Native.Nat.{ℕ, pred, ◌<◌, ◌≤◌}
use native.Mathlib.Omega.{arith}
use native.Mathlib.Decide.{ℕ_discrete}
use mathlib.Core.Path.{◌≡◌, refl, sym, ap, ◌∙◌, subst as along}
use mathlib.Core.Bool.{true, false, true≢false}
use mathlib.Core.List.{List, [], ◌∷◌}
use mathlib.Core.Logic.{◌⊎◌, inl, inr}
use mathlib.Core.Option.{Option, some, none}
use lib.Dec.{T, eqb→eq}
use lib.ListN.{length, get_elem?}
use Rattle.format.specs.Version.{v1}
use Rattle.run_keys.specs.Keys.{Keys, empty, singleton, union, holds, is_empty}
use Rattle.run_keys.proofs.KeyLaws.{holds_singleton}
use Rattle.plan_packed.specs.Syntax.{Expression, Program}
use Rattle.log_records.specs.Record.{Record}
use Rattle.log_order.proofs.Ports.{of_thread, of_monitor, of_volatile, Feeds}
use Rattle.rules.specs.State.{Cell, cell, Thread, State, fresh, fresh_object, lookup, monitor, change_at, gain, become, store, store_monitor, add_object}
use Rattle.rules.specs.State.{add_thread, forked, use_key, in_place, enqueue, signalled}
use Rattle.rules.specs.Rules.{Rule, is_volatile, passed_on, Converts, E-CALL, E-LET, E-IF, E-WHILE, E-NEW, E-READ, E-WRITE, E-READV, E-WRITEV, E-FORK, E-JOIN}
use Rattle.rules.specs.Rules.{E-RE-ENTER, E-ACQUIRE, E-RELEASE, E-WAIT, E-WAKE, E-NOTIFY, E-NOTIFYALL}
use Rattle.rules.proofs.Relocated.{Relocated, with_threads, relocated_length, was_there, enqueue_relocated, signalled_relocated}
use Rattle.rules.proofs.StateLaws.{added, length_added, change_other, change_length, store_same, store_other, store_monitor_lem, lock_same, lock_other}
use Rattle.rules.proofs.StateLaws.{lock_lookup, new_lookup, new_monitors}
use Rattle.rules.proofs.Invariant.{Inv, length_new, held_by}
use Rattle.rules.proofs.Bridge.{Kept, full}
use Rattle.side_by_side.specs.Moves.{shown}
use Rattle.side_by_side.proofs.Like.{Naming}
use Rattle.side_by_side.proofs.Correspondence.{Marks, Live, KeysIn, Mirror, FieldLike, Corresponds}
use Rattle.side_by_side.proofs.Moves.{live_older, fed_dead, mirror_relocated}
use Rattle.side_by_side.proofs.Heap.{empty_full}

-- thread i, which is w, stood in state s, if at another place
abbrev Stood : State → ℕ → Thread → Type 0
Stood s i w = (x : Thread) × (get_elem? s.threads i ≡ some x) × (in_place w.place x ≡ w)

-- what a move of thread p, which is t, with the record ρ, can have changed
pub record Frame (g : Program) (s s' : State) (p : ℕ) (t : Thread) (ρ : Record) : Type 0 where
  pub others : (i : ℕ) (w : Thread) → (p ≡ i → ⊥) → get_elem? s'.threads i ≡ some w → Stood s i w ⊎ Feeds v1 ρ (of_thread i)
  pub fields : (o f : ℕ) (d : Cell) → lookup s' o f ≡ some d
      → (lookup s o f ≡ some d) ⊎
      ((length s.objects ≡ o) ⊎
      ((d₀ : Cell) × (lookup s o f ≡ some d₀) ×
      (((is_volatile g f ≡ false) × (d.keys ≡ singleton s.next_key)) ⊎ ((is_volatile g f ≡ true) × Feeds v1 ρ (of_volatile o f)))))
  pub monitors : (o : ℕ) (d : Cell) → monitor s' o ≡ some d
      → (monitor s o ≡ some d) ⊎ ((length s.objects ≡ o) ⊎ ((d ≡ held_by t) ⊎ (Feeds v1 ρ (of_monitor o) × (is_empty d.keys ≡ false))))
  pub objects : length s.objects ≤ length s'.objects
  pub threads : length s.threads ≤ length s'.threads
  pub keys : s.next_key ≤ s'.next_key

pub frame_still : (g : Program) (s : State) (p : ℕ) (t : Thread) (ρ : Record) → Frame g s s p t ρ
frame_still g s p t ρ = record {
  others = λ i w n h. inl (w, h, refl);
  fields = λ o f d h. inl h;
  monitors = λ o d h. inl h;
  objects = omega arith;
  threads =
      omega arith;
  keys = omega arith;
}

-- the mover changes
frame_change : (g : Program) (s s₁ : State) (p : ℕ) (t : Thread) (ρ : Record) (h : Thread → Thread) → Frame g s s₁ p t ρ
    → Frame g s (with_threads s₁ (change_at s₁.threads p h)) p t ρ
unfolding lookup monitor
frame_change g s s₁ p t ρ h F = record {
  others = λ i w n k. F.others i w n (sym (change_other s₁.threads p h i n) ∙ k);
  fields = F.fields;
  monitors = F.monitors;
  objects = F.objects;
  threads = along (λ (n : ℕ). length s.threads ≤ n) (sym (change_length s₁.threads p h)) F.threads;
  keys = F.keys;
}

pub frame_become : (g : Program) (s s₁ : State) (p : ℕ) (t : Thread) (ρ : Record) (e : Expression) → Frame g s s₁ p t ρ → Frame g s (become s₁ p e) p t ρ
unfolding become
frame_become g s s₁ p t ρ e F = frame_change g s s₁ p t ρ _ F

frame_gain : (g : Program) (s s₁ : State) (p : ℕ) (t : Thread) (ρ : Record) (W : Keys) (count : Keys → ℕ) → Frame g s s₁ p t ρ
    → Frame g s (gain s₁ p W count) p t ρ
unfolding gain
frame_gain g s s₁ p t ρ W count F = frame_change g s s₁ p t ρ _ F

-- places change
frame_relocated : (g : Program) (s s₁ : State) (p : ℕ) (t : Thread) (ρ : Record) (us : List Thread) → Relocated s₁.threads us → Frame g s s₁ p t ρ
    → Frame g s (with_threads s₁ us) p t ρ
unfolding lookup monitor
frame_relocated g s s₁ p t ρ us r F = record {
  others = λ i w n h. others' i w n (was_there s₁.threads us r i w h);
  fields = F.fields;
  monitors = F.monitors;
  objects = F.objects;
  threads = along (λ (n : ℕ). length s.threads ≤ n) (sym (relocated_length s₁.threads us r)) F.threads;
  keys = F.keys;
}
  where
    others' : (i : ℕ) (w : Thread) → (p ≡ i → ⊥) → Stood s₁ i w → Stood s i w ⊎ Feeds v1 ρ (of_thread i)
    others' i w n (x, h, e) = go (F.others i x n h)
      where
        go : Stood s i x ⊎ Feeds v1 ρ (of_thread i) → Stood s i w ⊎ Feeds v1 ρ (of_thread i)
        go (inl (y, k, d)) = inl (y, k, ap (in_place w.place) d ∙ e)
        go (inr o) = inr o

-- a store, given what the cell may be
module _ (g : Program) (s : State) (p : ℕ) (t : Thread) (ρ : Record) (o f : ℕ) (c d₀ : Cell) (was : lookup s o f ≡ some d₀)
    (may : ((is_volatile g f ≡ false) × (c.keys ≡ singleton s.next_key)) ⊎ ((is_volatile g f ≡ true) × Feeds v1 ρ (of_volatile o f))) where
  stored : (x k : ℕ) (d : Cell) → lookup (store s o f c) x k ≡ some d
      → (lookup s x k ≡ some d) ⊎
      ((length s.objects ≡ x) ⊎
      ((e : Cell) × (lookup s x k ≡ some e) ×
      (((is_volatile g k ≡ false) × (d.keys ≡ singleton s.next_key)) ⊎ ((is_volatile g k ≡ true) × Feeds v1 ρ (of_volatile x k)))))
  stored x k d h = go (ℕ_discrete o x) (ℕ_discrete f k)
    where
      May : ℕ → ℕ → Cell → Type 0
      May a b z = ((is_volatile g b ≡ false) × (z.keys ≡ singleton s.next_key)) ⊎ ((is_volatile g b ≡ true) × Feeds v1 ρ (of_volatile a b))

      go : Dec (o ≡ x) → Dec (f ≡ k)
          → (lookup s x k ≡ some d) ⊎
          ((length s.objects ≡ x) ⊎
          ((e : Cell) × (lookup s x k ≡ some e) ×
          (((is_volatile g k ≡ false) × (d.keys ≡ singleton s.next_key)) ⊎ ((is_volatile g k ≡ true) × Feeds v1 ρ (of_volatile x k)))))
      go (yes a) (yes b) =
          let j : some c ≡ some d = sym (store_same s o f c d₀ was) ∙ ap (λ (z : ℕ). lookup (store s o f c) o z) b
          ∙ ap (λ (z : ℕ). lookup (store s o f c) z k) a ∙ h in
          let e : c ≡ d = cc in
          inr (inr (
            d₀,
            ap (λ (z : ℕ). lookup s z k) (sym a) ∙ ap (λ (z : ℕ). lookup s o z) (sym b) ∙ was,
            along (May x k) e (along (λ (z : ℕ). May z k c) a (along (λ (z : ℕ). May o z c) b may)),
          ))
      go (yes a) (no b) = inl (sym (store_other s o f c x k (λ _ z. b z)) ∙ h)
      go (no a) b = inl (sym (store_other s o f c x k (λ z _. a z)) ∙ h)

  frame_store : Frame g s (store s o f c) p t ρ
  unfolding store
  frame_store = record {
    others = λ i w n h. inl (w, h, refl);
    fields = stored;
    monitors = λ x d h. inl (sym (store_monitor_lem s o f c x) ∙ h);
    objects =
        along (λ (n : ℕ). length s.objects ≤ n) (sym (change_length s.objects o _)) (omega arith);
    threads = omega arith;
    keys = omega arith;
  }

frame_key : (g : Program) (s s₁ : State) (p : ℕ) (t : Thread) (ρ : Record) → Frame g s s₁ p t ρ → Frame g s (use_key s₁) p t ρ
unfolding use_key lookup monitor
frame_key g s s₁ p t ρ F = record {
  others = F.others;
  fields = F.fields;
  monitors = F.monitors;
  objects = F.objects;
  threads = F.threads;
  keys = let b =
      F.keys in omega arith;
}

frame_lock : (g : Program) (s : State) (p : ℕ) (t : Thread) (ρ : Record) (o : ℕ) (c d₀ : Cell) → monitor s o ≡ some d₀
    → ((c ≡ held_by t) ⊎ (Feeds v1 ρ (of_monitor o) × (is_empty c.keys ≡ false))) → Frame g s (store_monitor s o c) p t ρ
unfolding store_monitor
frame_lock g s p t ρ o c d₀ was may =
    record {
      others = λ i w n h. inl (w, h, refl);
      fields = λ x k d h. inl (sym (lock_lookup s o c x k) ∙ h);
      monitors = locked;
      objects =
          along (λ (n : ℕ). length s.objects ≤ n) (sym (change_length s.objects o _)) (omega arith);
      threads = omega arith;
      keys = omega arith;
    }
  where
    May : ℕ → Cell → Type 0
    May a z = (z ≡ held_by t) ⊎ (Feeds v1 ρ (of_monitor a) × (is_empty z.keys ≡ false))

    locked : (x : ℕ) (d : Cell) → monitor (store_monitor s o c) x ≡ some d
        → (monitor s x ≡ some d) ⊎ ((length s.objects ≡ x) ⊎ ((d ≡ held_by t) ⊎ (Feeds v1 ρ (of_monitor x) × (is_empty d.keys ≡ false))))
    locked x d h = go (ℕ_discrete o x)
      where
        go : Dec (o ≡ x) → (monitor s x ≡ some d) ⊎ ((length s.objects ≡ x) ⊎ ((d ≡ held_by t) ⊎ (Feeds v1 ρ (of_monitor x) × (is_empty d.keys ≡ false))))
        go (yes a) =
            let j : some c ≡ some d = sym (lock_same s o c d₀ was) ∙ ap (λ (z : ℕ). monitor (store_monitor s o c) z) a ∙ h in
            let e : c ≡ d = cc in
            inr (inr (along (May x) e (along (λ (z : ℕ). May z c) a may)))
        go (no a) = inl (sym (lock_other s o c x a) ∙ h)

frame_new : (g : Program) (s : State) (p : ℕ) (t : Thread) (ρ : Record) (fs : List ℕ) → Frame g s (add_object s (fresh_object fs)) p t ρ
unfolding add_object
frame_new g s p t ρ fs =
    record {
      others = λ i w n h. inl (w, h, refl);
      fields = fields';
      monitors = monitors';
      objects = omega (arith, length_new s fs);
      threads =
          omega arith;
      keys = omega arith;
    }
  where
    fields' : (o f : ℕ) (d : Cell) → lookup (add_object s (fresh_object fs)) o f ≡ some d
        → (lookup s o f ≡ some d) ⊎
        ((length s.objects ≡ o) ⊎
        ((d₀ : Cell) × (lookup s o f ≡ some d₀) ×
        (((is_volatile g f ≡ false) × (d.keys ≡ singleton s.next_key)) ⊎ ((is_volatile g f ≡ true) × Feeds v1 ρ (of_volatile o f)))))
    fields' o f d h = go (new_lookup s fs o f)
      where
        go : (lookup (add_object s (fresh_object fs)) o f ≡ lookup s o f) ⊎
            ((length s.objects ≡ o) × (lookup s o f ≡ none) × (lookup (add_object s (fresh_object fs)) o f ≡ some fresh))
            → (lookup s o f ≡ some d) ⊎
            ((length s.objects ≡ o) ⊎
            ((d₀ : Cell) × (lookup s o f ≡ some d₀) ×
            (((is_volatile g f ≡ false) × (d.keys ≡ singleton s.next_key)) ⊎ ((is_volatile g f ≡ true) × Feeds v1 ρ (of_volatile o f)))))
        go (inl e) = inl (sym e ∙ h)
        go (inr (e, _, _)) = inr (inl e)

    monitors' : (o : ℕ) (d : Cell) → monitor (add_object s (fresh_object fs)) o ≡ some d
        → (monitor s o ≡ some d) ⊎ ((length s.objects ≡ o) ⊎ ((d ≡ held_by t) ⊎ (Feeds v1 ρ (of_monitor o) × (is_empty d.keys ≡ false))))
    monitors' o d h = go (new_monitors s fs o)
      where
        go : (monitor (add_object s (fresh_object fs)) o ≡ monitor s o) ⊎
            ((length s.objects ≡ o) × (monitor s o ≡ none) × (monitor (add_object s (fresh_object fs)) o ≡ some fresh))
            → (monitor s o ≡ some d) ⊎ ((length s.objects ≡ o) ⊎ ((d ≡ held_by t) ⊎ (Feeds v1 ρ (of_monitor o) × (is_empty d.keys ≡ false))))
        go (inl e) = inl (sym e ∙ h)
        go (inr (e, _, _)) = inr (inl e)

frame_thread : (g : Program) (s s₁ : State) (p : ℕ) (t : Thread) (ρ : Record) (u : Thread) → s₁.threads ≡ s.threads
    → Feeds v1 ρ (of_thread (length s.threads)) → Frame g s s₁ p t ρ → Frame g s (add_thread s₁ u) p t ρ
unfolding add_thread lookup monitor
frame_thread g s s₁ p t ρ u same out F =
    record {
      others = λ i w n h. others' i w n (added s₁.threads u i w h);
      fields = F.fields;
      monitors = F.monitors;
      objects = F.objects;
      threads =
          let b = F.threads in omega (arith, length_added s₁.threads u);
      keys = F.keys;
    }
  where
    others' : (i : ℕ) (w : Thread) → (p ≡ i → ⊥) → ((i < length s₁.threads) × (get_elem? s₁.threads i ≡ some w)) ⊎ ((i ≡ length s₁.threads) × (u ≡ w))
        → Stood s i w ⊎ Feeds v1 ρ (of_thread i)
    others' i w n (inl (_, h)) = F.others i w n h
    others' i w n (inr (e, _)) = inr (along (λ (z : ℕ). Feeds v1 ρ (of_thread z)) (sym (e ∙ ap length same)) out)

module _ (g : Program) (s : State) (I : Inv g s) (H : List Record) (J : Kept g s H) (p : ℕ) (t : Thread) (ht : get_elem? s.threads p ≡ some t) where
  pub framed : {e : Expression} {R : Rule} {r : Option Record} {s' : State} {e' : Expression} → Converts g s p t e R r s' e' → Frame g s s' p t (shown p r)
  unfolding shown store use_key add_object enqueue signalled
  framed (E-CALL os hd hp) = frame_still g s p t _
  framed E-LET = frame_still g s p t _
  framed (E-IF b) = frame_still g s p t _
  framed E-WHILE = frame_still g s p t _
  framed (E-NEW {fs}) = frame_new g s p t _ fs
  framed (E-READ w h k v) = frame_still g s p t _
  framed (E-WRITE w {o} {f} {u} {v} h k vol) =
      let new : Cell = cell (singleton s.next_key) v in
      frame_gain g s (store (use_key s) o f new) p t _ (singleton s.next_key) _
      (frame_key g s (store s o f new) p t _ (frame_store g s p t _ o f new (cell (singleton w) u) h (inl (vol, refl))))
  framed (E-READV {W = W} h v) = frame_gain g s s p t _ (passed_on g.version W) _ (frame_still g s p t _)
  framed (E-WRITEV {o} {f} {u} {v} {W} h vol) =
      frame_store g s p t _ o f (cell (union W (passed_on g.version t.keys)) v) (cell W u) h (inr (vol, (refl, refl, refl, refl)))
  framed (E-FORK {e}) = frame_thread g s (add_object s (fresh_object [])) p t _ (forked s t e) refl (inr (refl, refl)) (frame_new g s p t _ [])
  framed (E-JOIN {q = q} h l) = frame_gain g s s p t _ q.thread.keys _ (frame_still g s p t _)
  framed (E-RE-ENTER h) = frame_still g s p t _
  framed (E-ACQUIRE {o} {u} {W} h n) = frame_gain g s (store_monitor s o (held_by t)) p t _ W _ (frame_lock g s p t _ o (held_by t) (cell W u) h (inl refl))
  framed (E-RELEASE {o} {v} h) = frame_lock g s p t _ o (cell t.keys 0) (held_by t) h (inr ((refl, refl), full g s I p t ht H J))
  framed (E-WAIT {o} h) =
      let s₁ : State = store_monitor s o (cell t.keys 0) in
      frame_relocated g s s₁ p t _ _ (enqueue_relocated s₁ p o)
      (frame_lock g s p t _ o (cell t.keys 0) (held_by t) h (inr ((refl, refl), full g s I p t ht H J)))
  framed (E-WAKE {o} {u} {W} z h n) = frame_gain g s (store_monitor s o (held_by t)) p t _ W _ (frame_lock g s p t _ o (held_by t) (cell W u) h (inl refl))
  framed (E-NOTIFY {o} h) = frame_relocated g s s p t _ _ (signalled_relocated pred s o) (frame_still g s p t _)
  framed (E-NOTIFYALL {o} h) = frame_relocated g s s p t _ _ (signalled_relocated (λ n. 0) s o) (frame_still g s p t _)

module _ (g : Program) (S : Marks) (H : List Record) (ω τ κ : Naming) (s s' c : State) (C : Corresponds g S H ω τ κ s c) (I : Inv g s) (p : ℕ) (t : Thread)
    (ht : get_elem? s.threads p ≡ some t)
    (ρ : Record) (mover : ρ.thread ≡ p) (F : Frame g s s' p t ρ) (unmarked : T (S (length H)) → ⊥) where
  -- the mover is dead from now on
  alive : (i : ℕ) → Live S (ρ ∷ H) (of_thread i) → p ≡ i → ⊥
  alive i l e = fed_dead S ρ H (of_thread i) unmarked (inl (mover ∙ e)) l

  was : (i : ℕ) (w : Thread) → Live S (ρ ∷ H) (of_thread i) → get_elem? s'.threads i ≡ some w → Stood s i w
  was i w l h = go (F.others i w (alive i l) h)
    where
      go : Stood s i w ⊎ Feeds v1 ρ (of_thread i) → Stood s i w
      go (inl e) = e
      go (inr o) = absurd (fed_dead S ρ H (of_thread i) unmarked o l)

  pub corr_dropped : Corresponds g S (ρ ∷ H) ω τ κ s' c
  corr_dropped = record {
    names = record {
      zero_kept = C.names.zero_kept;
      objects = λ o a h. let b = C.names.objects o a h in let z = b.0 in let y = F.objects in (omega arith, b.1);
      objects_apart = C.names.objects_apart;
      threads = λ i j h. let b = C.names.threads i j h in let z = b.0 in let y = F.threads in (omega arith, b.1);
      threads_apart = C.names.threads_apart;
      key_zero = C.names.key_zero;
      keys = λ k k' h. let b = C.names.keys k k' h in let y = F.keys in omega arith;
      fewer_objects = let b = C.names.fewer_objects in let y = F.objects in omega arith;
      fewer_threads = let b = C.names.fewer_threads in let y = F.threads in omega arith;
      fewer_keys = let b = C.names.fewer_keys in let y = F.keys in omega arith;
    };
    mirrors = λ i w l h. let x =
        was i w l h in along (Mirror ω τ κ c.threads i) x.2
        (mirror_relocated w.place (C.mirrors i x.0 (live_older S ρ H (of_thread i) l) x.1));
    fields = λ o a f d n h. fields' o a f d n (F.fields o f d h);
    free = λ o a d n m e l. free' o a d n e l (F.monitors o d m);
    held = λ o a i b w n h l m e. held' o a i b w n (was i w l h) l e (F.monitors o (record { keys = empty; value = w.self }) m);
  }
    where
      fields' : (o a f : ℕ) (d : Cell) → ω o ≡ some a
          → (lookup s o f ≡ some d) ⊎
          ((length s.objects ≡ o) ⊎
          ((d₀ : Cell) × (lookup s o f ≡ some d₀) ×
          (((is_volatile g f ≡ false) × (d.keys ≡ singleton s.next_key)) ⊎ ((is_volatile g f ≡ true) × Feeds v1 ρ (of_volatile o f)))))
          → (d' : Cell) × (lookup c a f ≡ some d') × FieldLike g S (ρ ∷ H) ω κ o f d d'
      fields' o a f d n (inl h) = let x =
          C.fields o a f d n h in (x.0, x.1, record { plain = x.2.plain; volatile = λ v l. x.2.volatile v (live_older S ρ H (of_volatile o f) l) })
      fields' o a f d n (inr (inl e)) = let b = (C.names.objects o a n).0 in absurd (omega arith)
      fields' o a f d n (inr (inr (d₀, h, inl (v, k)))) =
          let x = C.fields o a f d₀ n h in (
            x.0,
            x.1,
            record {
              plain = λ _ i i' b e.
                  let j : i ≡ s.next_key = eqb→eq i s.next_key (along T (ap (λ (W : Keys). holds W i) k ∙ holds_singleton s.next_key i) b) in
                  let y = C.names.keys i i' e in absurd (omega arith);
              volatile = λ v' l. absurd (true≢false (sym v' ∙ v));
            },
          )
      fields' o a f d n (inr (inr (d₀, h, inr (v, out)))) =
          let x = C.fields o a f d₀ n h in (
            x.0,
            x.1,
            record {
              plain = λ v' i i' b e. absurd (true≢false (sym v ∙ v'));
              volatile = λ _ l. absurd (fed_dead S ρ H (of_volatile o f) unmarked out l);
            },
          )

      free' : (o a : ℕ) (d : Cell) → ω o ≡ some a → is_empty d.keys ≡ false → Live S (ρ ∷ H) (of_monitor o)
          → (monitor s o ≡ some d) ⊎ ((length s.objects ≡ o) ⊎ ((d ≡ held_by t) ⊎ (Feeds v1 ρ (of_monitor o) × (is_empty d.keys ≡ false))))
          → (d' : Cell) × (monitor c a ≡ some d') × (is_empty d'.keys ≡ false) × KeysIn κ d.keys d'.keys
      free' o a d n e l (inl m) = C.free o a d n m e (live_older S ρ H (of_monitor o) l)
      free' o a d n e l (inr (inl x)) = let b = (C.names.objects o a n).0 in absurd (omega arith)
      free' o a d n e l (inr (inr (inl x))) = absurd (empty_full (ap (λ (z : Cell). is_empty z.keys) (sym x) ∙ e))
      free' o a d n e l (inr (inr (inr (out, _)))) = absurd (fed_dead S ρ H (of_monitor o) unmarked out l)

      held' : (o a i b : ℕ) (w : Thread) → ω o ≡ some a → Stood s i w → Live S (ρ ∷ H) (of_thread i) → ω w.self ≡ some b
          → (monitor s o ≡ some (held_by w)) ⊎ ((length s.objects ≡ o) ⊎ ((held_by w ≡ held_by t) ⊎ (Feeds v1 ρ (of_monitor o) × (is_empty empty ≡ false))))
          → monitor c a ≡ some (record { keys = empty; value = b })
      held' o a i b w n (x, h, q) l e (inl m) =
          let same : x.self ≡ w.self = ap (λ (z : Thread). z.self) q in
          C.held o a i b x n h (live_older S ρ H (of_thread i) l) (m ∙ ap (λ (v : ℕ). some (record { keys = empty; value = v })) (sym same)) (ap ω same ∙ e)
      held' o a i b w n (x, h, q) l e (inr (inl y)) = let b = (C.names.objects o a n).0 in absurd (omega arith)
      held' o a i b w n (x, h, q) l e (inr (inr (inl y))) =
          absurd (alive i l (I.apart p i t x ht h (sym (ap (λ (z : Cell). z.value) y) ∙ sym (ap (λ (z : Thread). z.self) q))))
      held' o a i b w n (x, h, q) l e (inr (inr (inr (_, y)))) = absurd (empty_full y)
