-- The invariant of runs: every thread's expression is closed and names what is there; a pending hold of a thread has its monitor, held by that
-- thread unless it waits there, and is pending once; and the parts of a move keep it. Assumes nothing.
use Prim.Native.Nat.{ℕ, suc, ◌<◌, ◌≤◌}
use native.Mathlib.Omega.{arith}
use native.Mathlib.Decide.{ℕ_discrete}
use mathlib.Core.Path.{◌≡◌, refl, sym, ap, ◌∙◌, subst as along}
use mathlib.Core.List.{List, [], ◌∷◌}
use mathlib.Core.Logic.{◌⊎◌, inl, inr}
use mathlib.Core.Option.{some, none}
use lib.ListN.{length, get_elem?}
use Rattle.run_keys.specs.Keys.{Keys, empty}
use Rattle.plan_packed.specs.Syntax.{Expression, Program}
use Rattle.rules.specs.Context.{focus, top}
use Rattle.rules.specs.State.{Cell, Thread, State, fresh, fresh_object, lookup, monitor, store, store_monitor, add_object, change_at, gain, become}
use Rattle.rules.specs.State.{add_thread, use_key, in_place}
use Rattle.rules.proofs.Placed.{Good, holds, GivenUp}
use Rattle.rules.proofs.MoreObjects.{good_more}
use Rattle.rules.proofs.Relocated.{Relocated, with_threads, was_there}
use Rattle.rules.proofs.StateLaws.{added, length_added, change_length, store_same, store_other, store_monitor_lem, lock_same, lock_other, lock_lookup}
use Rattle.rules.proofs.StateLaws.{new_lookup, new_monitor, new_monitors, who, whose}

abbrev pub In : ℕ → List ℕ → Type 0
In o [] = ⊥
In o (a ∷ os) = (o ≡ a) ⊎ In o os

abbrev pub Once : List ℕ → Type 0
Once [] = Unit {0}
Once (a ∷ os) = (In a os → ⊥) × Once os

-- the objects that a thread has still to release
abbrev pub owed : Thread → List ℕ
owed t = holds (focus top t.expression)

-- a monitor that the thread holds
abbrev pub held_by : Thread → Cell
held_by t = record { keys = empty; value = t.self }

pub record Sound (g : Program) (s : State) (t : Thread) : Type 0 where
  pub good : Good g (length s.objects) (focus top t.expression)
  pub self_there : t.self < length s.objects
  pub held : (o : ℕ) → In o (owed t) → (GivenUp (focus top t.expression) o → ⊥) → monitor s o ≡ some (held_by t)
  pub once : Once (owed t)

pub record Inv (g : Program) (s : State) : Type 0 where
  pub null_there : 0 < length s.objects
  pub each : (p : ℕ) (t : Thread) → get_elem? s.threads p ≡ some t → Sound g s t
  pub apart : (p q : ℕ) (t u : Thread) → get_elem? s.threads p ≡ some t → get_elem? s.threads q ≡ some u → t.self ≡ u.self → p ≡ q
  pub cells : (o f : ℕ) (c : Cell) → lookup s o f ≡ some c → c.value < length s.objects
  pub owners : (o : ℕ) (c : Cell) → monitor s o ≡ some c → c.value < length s.objects

-- ---- the threads stay, the objects change

module _ (g : Program) (s s₁ : State) (I : Inv g s) (threads : s₁.threads ≡ s.threads) (grows : length s.objects ≤ length s₁.objects)
    (monitors : (q : ℕ) (u : Thread) (o : ℕ) → get_elem? s.threads q ≡ some u → In o (owed u) → (GivenUp (focus top u.expression) o → ⊥)
    → monitor s o ≡ some (held_by u) → monitor s₁ o ≡ some (held_by u))
    (values : (o f : ℕ) (c : Cell) → lookup s₁ o f ≡ some c → c.value < length s₁.objects)
    (owners' : (o : ℕ) (c : Cell) → monitor s₁ o ≡ some c → c.value < length s₁.objects) where
  was : (q : ℕ) (u : Thread) → get_elem? s₁.threads q ≡ some u → get_elem? s.threads q ≡ some u
  was q u h = sym (ap (λ (l : List Thread). get_elem? l q) threads) ∙ h

  pub inv_objects : Inv g s₁
  inv_objects = record {
    null_there = let b = I.null_there in omega arith;
    each = λ q u h.
        let d = I.each q u (was q u h) in
        record {
          good = good_more g (length s.objects) (length s₁.objects) grows (focus top u.expression) d.good;
          self_there = let b = d.self_there in omega arith;
          held = λ o i n. monitors q u o (was q u h) i n (d.held o i n);
          once = d.once;
        };
    apart = λ p q t u h k e. I.apart p q t u (was p t h) (was q u k) e;
    cells = values;
    owners = owners';
  }

pub inv_store : (g : Program) (s : State) (o f : ℕ) (c d : Cell) → Inv g s → lookup s o f ≡ some d → c.value < length s.objects → Inv g (store s o f c)
unfolding store
inv_store g s o f c d I h v =
    inv_objects g s (store s o f c) I refl (omega (arith, len)) (λ q u o' k i n e. store_monitor_lem s o f c o' ∙ e) (λ o' f' c' e. let b =
    value o' f' c' e in omega (arith, len)) (λ o' c' e. let b = I.owners o' c' (sym (store_monitor_lem s o f c o') ∙ e) in omega (arith, len))
  where
    len : length (store s o f c).objects ≡ length s.objects
    len = change_length s.objects o _

    value : (o' f' : ℕ) (c' : Cell) → lookup (store s o f c) o' f' ≡ some c' → c'.value < length s.objects
    value o' f' c' e = go (ℕ_discrete o o') (ℕ_discrete f f')
      where
        go : Dec (o ≡ o') → Dec (f ≡ f') → c'.value < length s.objects
        go (yes x) (yes y) =
            let k : some c ≡ some c' = sym (store_same s o f c d h) ∙ ap (λ (b : ℕ). lookup (store s o f c) o b) y
            ∙ ap (λ (a : ℕ). lookup (store s o f c) a f') x ∙ e in
            let r : c ≡ c' = cc in
            along (λ (z : Cell). z.value < length s.objects) r v
        go (yes x) (no y) = I.cells o' f' c' (sym (store_other s o f c o' f' (λ a b. y b)) ∙ e)
        go (no x) y = I.cells o' f' c' (sym (store_other s o f c o' f' (λ a b. x a)) ∙ e)

pub inv_key : (g : Program) (s : State) → Inv g s → Inv g (use_key s)
unfolding use_key lookup monitor
inv_key g s I = inv_objects g s (use_key s) I refl (omega arith) (λ q u o k i n e. e) (λ o f c e. I.cells o f c e) (λ o c e. I.owners o c e)

-- a monitor that unbound has to release
pub inv_lock : (g : Program) (s : State) (o : ℕ) (c d : Cell) → Inv g s → monitor s o ≡ some d → c.value < length s.objects
    → ((q : ℕ) (u : Thread) → get_elem? s.threads q ≡ some u → In o (owed u) → (GivenUp (focus top u.expression) o → ⊥) → ⊥) → Inv g (store_monitor s o c)
unfolding store_monitor
inv_lock g s o c d I was v n =
    inv_objects g s (store_monitor s o c) I refl (omega (arith, len))
    (λ q u o' k i m e. lock_other s o c o' (λ x. n q u k (rw x i) (rw x m)) ∙ e)
    (λ o' f' c' e. let b = I.cells o' f' c' (sym (lock_lookup s o c o' f') ∙ e) in omega (arith, len))
    (λ o' c' e. let b = owner o' c' e (ℕ_discrete o o') in omega (arith, len))
  where
    owner : (o' : ℕ) (c' : Cell) → monitor (store_monitor s o c) o' ≡ some c' → Dec (o ≡ o') → c'.value < length s.objects
    owner o' c' e (yes x) =
        let k : some c ≡ some c' = sym (lock_same s o c d was) ∙ ap (λ (a : ℕ). monitor (store_monitor s o c) a) x ∙ e in
        let r : c ≡ c' = cc in
        along (λ (z : Cell). z.value < length s.objects) r v
    owner o' c' e (no x) = I.owners o' c' (sym (lock_other s o c o' x) ∙ e)

    len : length (store_monitor s o c).objects ≡ length s.objects
    len = change_length s.objects o _

pub length_new : (s : State) (fs : List ℕ) → length (add_object s (fresh_object fs)).objects ≡ suc (length s.objects)
unfolding add_object
length_new s fs = length_added s.objects (fresh_object fs)

pub inv_new : (g : Program) (s : State) (fs : List ℕ) → Inv g s → Inv g (add_object s (fresh_object fs))
unfolding add_object fresh
inv_new g s fs I =
    inv_objects g s (add_object s (fresh_object fs)) I refl (omega (arith, length_new s fs))
    (λ q u o k i n e. new_monitor s fs o (held_by u) e) value owner
  where
    owner : (o : ℕ) (c : Cell) → monitor (add_object s (fresh_object fs)) o ≡ some c → c.value < length (add_object s (fresh_object fs)).objects
    owner o c e = go (new_monitors s fs o)
      where
        go : (monitor (add_object s (fresh_object fs)) o ≡ monitor s o) ⊎
            ((length s.objects ≡ o) × (monitor s o ≡ none) × (monitor (add_object s (fresh_object fs)) o ≡ some fresh))
            → c.value < length (add_object s (fresh_object fs)).objects
        go (inl h) = let b = I.owners o c (sym h ∙ e) in omega (arith, length_new s fs)
        go (inr (_, _, h)) =
            let k : fresh ≡ c = let j : some fresh ≡ some c = sym h ∙ e in cc in
            along (λ (z : Cell). z.value < length (add_object s (fresh_object fs)).objects) k (omega (arith, length_new s fs))

    value : (o f : ℕ) (c : Cell) → lookup (add_object s (fresh_object fs)) o f ≡ some c → c.value < length (add_object s (fresh_object fs)).objects
    value o f c e = go (new_lookup s fs o f)
      where
        go : (lookup (add_object s (fresh_object fs)) o f ≡ lookup s o f) ⊎
            ((length s.objects ≡ o) × (lookup s o f ≡ none) × (lookup (add_object s (fresh_object fs)) o f ≡ some fresh))
            → c.value < length (add_object s (fresh_object fs)).objects
        go (inl h) = let b = I.cells o f c (sym h ∙ e) in omega (arith, length_new s fs)
        go (inr (_, _, h)) =
            let k : fresh ≡ c = let j : some fresh ≡ some c = sym h ∙ e in cc in
            along (λ (z : Cell). z.value < length (add_object s (fresh_object fs)).objects) k (zero_there h)
          where
            zero_there : lookup (add_object s (fresh_object fs)) o f ≡ some fresh → fresh.value < length (add_object s (fresh_object fs)).objects
            zero_there h = omega (arith, length_new s fs)

-- ---- one thread changes

pub record Same (t u : Thread) : Type 0 where
  pub self : u.self ≡ t.self
  pub expression : u.expression ≡ t.expression

sound_same : (g : Program) (s s₁ : State) (t u : Thread) → s₁.objects ≡ s.objects → Same t u → Sound g s t → Sound g s₁ u
unfolding monitor
sound_same g s s₁ t u o e d = record {
  good = rw (o, e.expression) d.good;
  self_there = rw (o, e.self) d.self_there;
  held = λ a i n. rw (o, e.self) (d.held a (rw e.expression at i) (rw e.expression at n));
  once = rw e.expression d.once;
}

-- thread p becomes a thread with the same self
module _ (g : Program) (s : State) (I : Inv g s) (p : ℕ) (h : Thread → Thread) (t : Thread) (at : get_elem? s.threads p ≡ some t)
    (self : (h t).self ≡ t.self) where
  abbrev after : State
  after = record { objects = s.objects; threads = change_at s.threads p h; next_key = s.next_key }

  pub inv_change : Sound g after (h t) → Inv g after
  unfolding monitor lookup
  inv_change d = record {
    null_there = I.null_there;
    each = λ q u e. one (who s.threads p h t at q u e);
    apart = λ q r u w e k x. let a = whose s.threads p h t at self q u e in let b = whose s.threads p h t at self r w k in
        I.apart q r a.0 b.0 a.1 b.1 (sym a.2 ∙ x ∙ b.2);
    cells = λ o f c e. I.cells o f c e;
    owners = λ o c e. I.owners o c e;
  }
    where
      one : {q : ℕ} {u : Thread} → ((p ≡ q) × (h t ≡ u)) ⊎ ((p ≡ q → ⊥) × (get_elem? s.threads q ≡ some u)) → Sound g after u
      one (inl (x, y)) = rw y at d
      one {q} {u} (inr (x, y)) = sound_same g s after u u refl (record { self = refl; expression = refl }) (I.each q u y)

pub inv_gain : (g : Program) (s : State) (p : ℕ) (W : Keys) (n : Keys → ℕ) (t : Thread) → Inv g s → get_elem? s.threads p ≡ some t → Inv g (gain s p W n)
unfolding gain
inv_gain g s p W n t I at = inv_change g s I p _ t at refl (sound_same g s (gain s p W n) t _ refl (record { self = refl; expression = refl }) (I.each p t at))

pub inv_become : (g : Program) (s : State) (p : ℕ) (e : Expression) (t : Thread) (os : List ℕ) → Inv g s → get_elem? s.threads p ≡ some t
    → Good g (length s.objects) (focus top e) → holds (focus top e) ≡ os
    → ((o : ℕ) → In o os → (GivenUp (focus top e) o → ⊥) → monitor s o ≡ some (held_by t)) → Once os → Inv g (become s p e)
unfolding become monitor
inv_become g s p e t os I at good theirs held once =
    inv_change g s I p _ t at refl
    (record {
      good = good;
      self_there = (I.each p t at).self_there;
      held = λ o i n. held o (rw theirs at i) n;
      once = rw theirs once;
    })

pub inv_thread : (g : Program) (s : State) (u : Thread) → Inv g s → Sound g s u
    → ((q : ℕ) (t : Thread) → get_elem? s.threads q ≡ some t → t.self ≡ u.self → ⊥) → Inv g (add_thread s u)
unfolding add_thread monitor lookup
inv_thread g s u I d n = record {
  null_there = I.null_there;
  each = λ q w e. one (added s.threads u q w e);
  apart = λ q r w x e k y. two (added s.threads u q w e) (added s.threads u r x k) y;
  cells = λ o f c e. I.cells o f c e;
  owners = λ o c e. I.owners o c e;
}
  where
    one : {q : ℕ} {w : Thread} → ((q < length s.threads) × (get_elem? s.threads q ≡ some w)) ⊎ ((q ≡ length s.threads) × (u ≡ w))
        → Sound g (add_thread s u) w
    one {q} {w} (inl (a, b)) = sound_same g s (add_thread s u) w w refl (record { self = refl; expression = refl }) (I.each q w b)
    one (inr (a, b)) = along (λ (z : Thread). Sound g (add_thread s u) z) b
        (sound_same g s (add_thread s u) u u refl (record { self = refl; expression = refl }) d)

    two : {q r : ℕ} {w x : Thread} → ((q < length s.threads) × (get_elem? s.threads q ≡ some w)) ⊎ ((q ≡ length s.threads) × (u ≡ w))
        → ((r < length s.threads) × (get_elem? s.threads r ≡ some x)) ⊎ ((r ≡ length s.threads) × (u ≡ x)) → w.self ≡ x.self → q ≡ r
    two {q} {r} {w} {x} (inl (a, b)) (inl (c, d)) y = I.apart q r w x b d y
    two {q} {r} {w} {x} (inl (a, b)) (inr (c, d)) y = absurd (n q w b (y ∙ ap (λ (z : Thread). z.self) (sym d)))
    two {q} {r} {w} {x} (inr (a, b)) (inl (c, d)) y = absurd (n r x d (sym y ∙ ap (λ (z : Thread). z.self) (sym b)))
    two (inr (a, b)) (inr (c, d)) y = a ∙ sym c

-- ---- places alone change

pub inv_relocated : (g : Program) (s : State) (us : List Thread) → Relocated s.threads us → Inv g s → Inv g (with_threads s us)
unfolding monitor lookup
inv_relocated g s us r I = record {
  null_there = I.null_there;
  each = λ q u e. let w =
      was q u e in along (Sound g (with_threads s us)) w.2
      (sound_same g s (with_threads s us) w.0 (in_place u.place w.0) refl (record { self = refl; expression = refl }) (I.each q w.0 w.1));
  apart = λ p q t u h k e. let w = was p t h in let x =
      was q u k in I.apart p q w.0 x.0 w.1 x.1 (ap (λ (z : Thread). z.self) w.2 ∙ e ∙ ap (λ (z : Thread). z.self) (sym x.2));
  cells = λ o f c e. I.cells o f c e;
  owners = λ o c e. I.owners o c e;
}
  where
    was : (q : ℕ) (u : Thread) → get_elem? us q ≡ some u → (t : Thread) × (get_elem? s.threads q ≡ some t) × (in_place u.place t ≡ u)
    was q u e = was_there s.threads us r q u e
