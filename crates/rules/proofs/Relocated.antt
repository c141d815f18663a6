-- Threads that differ in their places alone: what a wait and a notify do to the threads (document 02, E3). Assumes nothing.
use Prim.Native.Nat.{ℕ, zero, suc}
use mathlib.Core.Path.{◌≡◌, refl, sym, ap}
use mathlib.Core.Bool.{true≢false}
use mathlib.Core.List.{List, [], ◌∷◌, map}
use mathlib.Core.Option.{some}
use lib.ListN.{length, get_elem?}
use Rattle.rules.specs.Queue.{Place}
use Rattle.rules.specs.State.{Form, ThreadOf, StateOf, change_at, in_place, enqueue, signalled}

module _ {F : Form} where
  -- the second threads are the first ones at other places
  abbrev pub Relocated : List (ThreadOf F) → List (ThreadOf F) → Type 0
  Relocated [] [] = Unit {0}
  Relocated [] (u ∷ us) = ⊥
  Relocated (t ∷ ts) [] = ⊥
  Relocated (t ∷ ts) (u ∷ us) = (in_place u.place t ≡ u) × Relocated ts us

  -- the state with these threads
  abbrev pub with_threads : StateOf F → List (ThreadOf F) → StateOf F
  with_threads s us = record { objects = s.objects; threads = us; next_key = s.next_key }

  pub relocated_same : (ts : List (ThreadOf F)) → Relocated ts ts
  relocated_same [] = tt
  relocated_same (t ∷ ts) = (refl, relocated_same ts)

  pub relocated_length : (ts us : List (ThreadOf F)) → Relocated ts us → length us ≡ length ts
  relocated_length [] [] r = refl
  relocated_length [] (u ∷ us) r = absurd r
  relocated_length (t ∷ ts) [] r = absurd r
  relocated_length (t ∷ ts) (u ∷ us) r = ap suc (relocated_length ts us r.1)

  -- whoever stands at q stood there, at another place
  pub was_there : (ts us : List (ThreadOf F)) → Relocated ts us → (q : ℕ) (u : ThreadOf F) → get_elem? us q ≡ some u
      → (t : ThreadOf F) × (get_elem? ts q ≡ some t) × (in_place u.place t ≡ u)
  was_there [] [] r q u h = absurd (true≢false cc)
  was_there [] (x ∷ us) r q u h = absurd r
  was_there (t ∷ ts) [] r q u h = absurd r
  was_there (t ∷ ts) (x ∷ us) r zero u h = let e : x ≡ u = cc in (t, refl, rw e at r.0)
  was_there (t ∷ ts) (x ∷ us) r (suc q) u h = was_there ts us r.1 q u h

  -- whoever stood at q stands there, at another place
  pub is_there : (ts us : List (ThreadOf F)) → Relocated ts us → (q : ℕ) (t : ThreadOf F) → get_elem? ts q ≡ some t
      → (w : Place) × (get_elem? us q ≡ some (in_place w t))
  is_there [] [] r q t h = absurd (true≢false cc)
  is_there [] (x ∷ us) r q t h = absurd r
  is_there (y ∷ ts) [] r q t h = absurd r
  is_there (y ∷ ts) (x ∷ us) r zero t h = let e : y ≡ t = cc in (x.place, rw (← e) (ap {B = _} some (sym r.0)))
  is_there (y ∷ ts) (x ∷ us) r (suc q) t h = is_there ts us r.1 q t h

  -- a change that leaves the place alone
  pub relocated_become : (ts us : List (ThreadOf F)) → Relocated ts us → (p : ℕ) (e : F.Carrier)
      → Relocated (change_at ts p (λ x. record { self = x.self; expression = e; keys = x.keys; learnt = x.learnt; place = x.place }))
      (change_at us p (λ x. record { self = x.self; expression = e; keys = x.keys; learnt = x.learnt; place = x.place }))
  unfolding change_at
  relocated_become [] [] r p e = tt
  relocated_become [] (u ∷ us) r p e = absurd r
  relocated_become (t ∷ ts) [] r p e = absurd r
  relocated_become (t ∷ ts) (u ∷ us) r zero e =
      (ap (λ (x : ThreadOf F). record { self = x.self; expression = e; keys = x.keys; learnt = x.learnt; place = u.place }) r.0, r.1)
  relocated_become (t ∷ ts) (u ∷ us) r (suc p) e = (r.0, relocated_become ts us r.1 p e)

  pub changed_place : (ts : List (ThreadOf F)) (p : ℕ) (w : Place) → Relocated ts (change_at ts p (in_place w))
  unfolding change_at
  changed_place [] p w = tt
  changed_place (t ∷ ts) zero w = (refl, relocated_same ts)
  changed_place (t ∷ ts) (suc p) w = (refl, changed_place ts p w)

  -- a wait
  pub enqueue_relocated : (s : StateOf F) (p o : ℕ) → Relocated s.threads (enqueue s p o).threads
  unfolding enqueue
  enqueue_relocated s p o = changed_place s.threads p _

  pub mapped_places : (h : Place → Place) (ts : List (ThreadOf F)) → Relocated ts (map (λ (x : ThreadOf F). in_place (h x.place) x) ts)
  mapped_places h [] = tt
  mapped_places h (t ∷ ts) = (refl, mapped_places h ts)

  -- a notify
  pub signalled_relocated : (h : ℕ → ℕ) (s : StateOf F) (o : ℕ) → Relocated s.threads (signalled h s o).threads
  unfolding signalled
  signalled_relocated h s o = mapped_places _ s.threads
