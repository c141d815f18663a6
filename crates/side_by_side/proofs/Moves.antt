-- The parts of a marked move keep the correspondence.
use Prim.Native.Nat.{ℕ, ◌<◌}
use native.Mathlib.Omega.{arith}
use mathlib.Core.Path.{◌≡◌, refl, sym, ap, ◌∙◌, subst as along}
use mathlib.Core.Bool.{Bool, true, false, ◌||◌}
use mathlib.Core.List.{List, ◌∷◌}
use mathlib.Core.Logic.{◌⊎◌, inl, inr}
use mathlib.Core.Option.{Option, some}
use lib.Dec.{T}
use lib.ListN.{length, get_elem?}
use Rattle.format.specs.Version.{v1}
use Rattle.run_keys.specs.Keys.{Keys, empty, union, holds}
use Rattle.run_keys.proofs.KeyLaws.{holds_union}
use Rattle.plan_packed.specs.Syntax.{Expression, Program}
use Rattle.log_records.specs.Record.{Record}
use Rattle.log_order.proofs.Newest.{here, back, at_below}
use Rattle.log_order.proofs.Ports.{Port, of_thread, of_monitor, of_volatile, Feeds, Draws, port→pair}
use Rattle.rules.specs.Queue.{Place}
use Rattle.rules.specs.State.{Thread, State, lookup, monitor, change_at, gain, become, in_place, signalled}
use Rattle.rules.proofs.Relocated.{Relocated, with_threads, relocated_length, was_there, is_there, signalled_relocated}
use Rattle.rules.proofs.StateLaws.{change_same, change_other, change_length, who}
use Rattle.side_by_side.proofs.Like.{Naming, Like}
use Rattle.side_by_side.proofs.Correspondence.{Marks, Closed, Live, KeysIn, Mirror, Corresponds}

-- ---- the log grows

pub live_older : (S : Marks) (r : Record) (H : List Record) (q : Port) → Live S (r ∷ H) q → Live S H q
live_older S r H q l i w a o = l i w (back a) o

-- what a marked move draws from is live
pub drawn_live : (S : Marks) (r : Record) (H : List Record) (q : Port) → Closed S (r ∷ H) → T (S (length H)) → Draws v1 r q → Live S H q
drawn_live S r H q c m d i w a o = c i (length H) w r (back a) (here refl) (at_below a) (port→pair q o d) m

-- what an unmarked move feeds is not
pub fed_dead : (S : Marks) (r : Record) (H : List Record) (q : Port) → (T (S (length H)) → ⊥) → Feeds v1 r q → Live S (r ∷ H) q → ⊥
fed_dead S r H q n o l = n (l (length H) r (here refl) o)

pub corr_older : (g : Program) (S : Marks) (r : Record) (H : List Record) (ω τ κ : Naming) (s c : State) → Corresponds g S H ω τ κ s c
    → Corresponds g S (r ∷ H) ω τ κ s c
corr_older g S r H ω τ κ s c C = record {
  names = C.names;
  mirrors = λ p t l h. C.mirrors p t (live_older S r H (of_thread p) l) h;
  fields = λ o a f d n h. let x =
      C.fields o a f d n h in (x.0, x.1, record { plain = x.2.plain; volatile = λ v l. x.2.volatile v (live_older S r H (of_volatile o f) l) });
  free = λ o a d n h e l. C.free o a d n h e (live_older S r H (of_monitor o) l);
  held = λ o a p b t n h l m e. C.held o a p b t n h (live_older S r H (of_thread p) l) m e;
}

-- ---- the movers change, their selves do not

module _ (g : Program) (S : Marks) (H : List Record) (ω τ κ : Naming) (s c : State) (C : Corresponds g S H ω τ κ s c)
    (p q : ℕ) (t u : Thread) (pq : τ p ≡ some q) (ht : get_elem? s.threads p ≡ some t) (hu : get_elem? c.threads q ≡ some u)
    (h h' : Thread → Thread) (self : (h t).self ≡ t.self) (self' : (h' u).self ≡ u.self) (selves : ω t.self ≡ some u.self)
    (exprs : Like ω (h t).expression (h' u).expression) (keys : KeysIn κ (h t).keys (h' u).keys) where
  abbrev s₁ : State
  s₁ = record { objects = s.objects; threads = change_at s.threads p h; next_key = s.next_key }

  abbrev c₁ : State
  c₁ = record { objects = c.objects; threads = change_at c.threads q h'; next_key = c.next_key }

  mirror : (r : ℕ) (w : Thread) → Live S H (of_thread r) → ((p ≡ r) × (h t ≡ w)) ⊎ ((p ≡ r → ⊥) × (get_elem? s.threads r ≡ some w))
      → Mirror ω τ κ c₁.threads r w
  mirror r w l (inl (x, y)) =
      record {
        number = q;
        thread = h' u;
        named = ap τ (sym x) ∙ pq;
        there = change_same c.threads q h' u hu;
        expr_like = along (λ (z : Thread). Like ω z.expression (h' u).expression) y exprs;
        self_like = ap ω (ap (λ (z : Thread). z.self) (sym y) ∙ self) ∙ selves ∙ ap {B = Option ℕ} some (sym self');
        keys_like = along (λ (z : Thread). KeysIn κ z.keys (h' u).keys) y keys;
      }
  mirror r w l (inr (x, y)) =
      let m = C.mirrors r w l y in
      record {
        number = m.number;
        thread = m.thread;
        named = m.named;
        there = change_other c.threads q h' m.number (λ e. x (C.names.threads_apart p r q pq (m.named ∙ ap {B = Option ℕ} some (sym e)))) ∙ m.there;
        expr_like = m.expr_like;
        self_like = m.self_like;
        keys_like = m.keys_like;
      }

  pub corr_change : Corresponds g S H ω τ κ s₁ c₁
  unfolding lookup monitor
  corr_change = record {
    names = record {
      zero_kept = C.names.zero_kept;
      objects = C.names.objects;
      objects_apart = C.names.objects_apart;
      threads = λ a b e. let x =
          C.names.threads a b e in
          (along (λ (n : ℕ). a < n) (sym (change_length s.threads p h)) x.0, along (λ (n : ℕ). b < n) (sym (change_length c.threads q h')) x.1);
      threads_apart = C.names.threads_apart;
      key_zero = C.names.key_zero;
      keys = C.names.keys;
      fewer_objects = C.names.fewer_objects;
      fewer_threads = let b = C.names.fewer_threads in omega (arith, change_length s.threads p h, change_length c.threads q h');
      fewer_keys = C.names.fewer_keys;
    };
    mirrors = λ r w l e. mirror r w l (who s.threads p h t ht r w e);
    fields = λ o a f d n e. C.fields o a f d n e;
    free = λ o a d n m e l. C.free o a d n m e l;
    held = λ o a r b w n e l m x. held' o a r b w n l m x (who s.threads p h t ht r w e);
  }
    where
      held' : (o a r b : ℕ) (w : Thread) → ω o ≡ some a → Live S H (of_thread r) → monitor s o ≡ some (record { keys = empty; value = w.self })
          → ω w.self ≡ some b → ((p ≡ r) × (h t ≡ w)) ⊎ ((p ≡ r → ⊥) × (get_elem? s.threads r ≡ some w))
          → monitor c a ≡ some (record { keys = empty; value = b })
      held' o a r b w n l m x (inl (y, z)) =
          let e : w.self ≡ t.self = ap (λ (v : Thread). v.self) (sym z) ∙ self in
          C.held o a r b t n (rw (← y) ht) l (m ∙ ap (λ (v : ℕ). some (record { keys = empty; value = v })) e) (ap ω (sym e) ∙ x)
      held' o a r b w n l m x (inr (y, z)) = C.held o a r b w n z l m x

-- a marked move's last part: both movers' expressions
pub corr_become : (g : Program) (S : Marks) (H : List Record) (ω τ κ : Naming) (s c : State) → Corresponds g S H ω τ κ s c → (p q : ℕ) (t u : Thread)
    → τ p ≡ some q → get_elem? s.threads p ≡ some t → get_elem? c.threads q ≡ some u
    → ω t.self ≡ some u.self → KeysIn κ t.keys u.keys → (d e : Expression) → Like ω d e → Corresponds g S H ω τ κ (become s p d) (become c q e)
unfolding become
corr_become g S H ω τ κ s c C p q t u pq ht hu selves keys d e l = corr_change g S H ω τ κ s c C p q t u pq ht hu _ _ refl refl selves l keys

or→ : (a b : Bool) → T (a || b) → T a ⊎ T b
or→ true b h = inl tt
or→ false b h = inr h

or_l : (a b : Bool) → T a → T (a || b)
or_l true b h = tt
or_l false b h = absurd h

or_r : (a b : Bool) → T b → T (a || b)
or_r true b h = tt
or_r false b h = h

pub keys_both : (κ : Naming) (X W X' W' : Keys) → KeysIn κ X X' → KeysIn κ W W' → KeysIn κ (union X W) (union X' W')
keys_both κ X W X' W' x y k h = go (or→ (holds X k) (holds W k) (rw (holds_union X W k) at h))
  where
    go : T (holds X k) ⊎ T (holds W k) → (k' : ℕ) × (κ k ≡ some k') × T (holds (union X' W') k')
    go (inl a) = let r = x k a in (r.0, r.1, rw (holds_union X' W' r.0) (or_l (holds X' r.0) (holds W' r.0) r.2))
    go (inr a) = let r = y k a in (r.0, r.1, rw (holds_union X' W' r.0) (or_r (holds X' r.0) (holds W' r.0) r.2))

pub corr_gain : (g : Program) (S : Marks) (H : List Record) (ω τ κ : Naming) (s c : State) → Corresponds g S H ω τ κ s c → (p q : ℕ) (t u : Thread)
    → τ p ≡ some q → get_elem? s.threads p ≡ some t → get_elem? c.threads q ≡ some u
    → ω t.self ≡ some u.self → Like ω t.expression u.expression → KeysIn κ t.keys u.keys → (W W' : Keys) (count count' : Keys → ℕ)
    → KeysIn κ W W' → Corresponds g S H ω τ κ (gain s p W count) (gain c q W' count')
unfolding gain
corr_gain g S H ω τ κ s c C p q t u pq ht hu selves exprs keys W W' count count' w =
    corr_change g S H ω τ κ s c C p q t u pq ht hu _ _ refl refl selves exprs (keys_both κ W t.keys W' u.keys w keys)

-- ---- places alone change: nothing here speaks of them

pub mirror_relocated : {ω τ κ : Naming} {us : List Thread} {p : ℕ} {t : Thread} (w : Place) → Mirror ω τ κ us p t → Mirror ω τ κ us p (in_place w t)
mirror_relocated w m = record {
  number = m.number;
  thread = m.thread;
  named = m.named;
  there = m.there;
  expr_like = m.expr_like;
  self_like =
      m.self_like;
  keys_like = m.keys_like;
}

pub corr_relocated : (g : Program) (S : Marks) (H : List Record) (ω τ κ : Naming) (s c : State) → Corresponds g S H ω τ κ s c → (ts us : List Thread)
    → Relocated s.threads ts → Relocated c.threads us
    → Corresponds g S H ω τ κ (with_threads s ts) (with_threads c us)
unfolding lookup monitor
corr_relocated g S H ω τ κ s c C ts us a b = record {
  names = record {
    zero_kept = C.names.zero_kept;
    objects = C.names.objects;
    objects_apart = C.names.objects_apart;
    threads = λ p q e. let x = C.names.threads p q e in (along (λ (n : ℕ). p < n) (sym as_many) x.0, along (λ (n : ℕ). q < n) (sym as_many') x.1);
    threads_apart = C.names.threads_apart;
    key_zero = C.names.key_zero;
    keys = C.names.keys;
    fewer_objects = C.names.fewer_objects;
    fewer_threads = let x = C.names.fewer_threads in omega (arith, as_many, as_many');
    fewer_keys = C.names.fewer_keys;
  };
  mirrors = λ p t l h. mirror p t l (was_there s.threads ts a p t h);
  fields = λ o a f d n e. C.fields o a f d n e;
  free = λ o a d n m e l. C.free o a d n m e l;
  held = λ o x p y t n h l m e. let w = was_there s.threads ts a p t h in let same : w.0.self ≡ t.self = ap (λ (z : Thread). z.self) w.2 in
      C.held o x p y w.0 n w.1 l (m ∙ ap (λ (v : ℕ). some (record { keys = empty; value = v })) (sym same)) (ap ω same ∙ e);
}
  where
    as_many : length ts ≡ length s.threads
    as_many = relocated_length s.threads ts a

    as_many' : length us ≡ length c.threads
    as_many' = relocated_length c.threads us b

    mirror : (p : ℕ) (t : Thread) → Live S H (of_thread p) → (w : Thread) × (get_elem? s.threads p ≡ some w) × (in_place t.place w ≡ t) → Mirror ω τ κ us p t
    mirror p t l (w, h, e) =
        let m = C.mirrors p w l h in
        let x = is_there c.threads us b m.number m.thread m.there in
        along (Mirror ω τ κ us p) e
        (mirror_relocated {t = w} t.place
        (record {
          number = m.number;
          thread = in_place x.0 m.thread;
          named = m.named;
          there = x.1;
          expr_like = m.expr_like;
          self_like =
              m.self_like;
          keys_like = m.keys_like;
        }))

pub corr_signalled : (g : Program) (S : Marks) (H : List Record) (ω τ κ : Naming) (s c : State) → Corresponds g S H ω τ κ s c → (h h' : ℕ → ℕ) (o a : ℕ)
    → Corresponds g S H ω τ κ (signalled h s o) (signalled h' c a)
unfolding signalled
corr_signalled g S H ω τ κ s c C h h' o a = corr_relocated g S H ω τ κ s c C _ _ (signalled_relocated h s o) (signalled_relocated h' c a)
