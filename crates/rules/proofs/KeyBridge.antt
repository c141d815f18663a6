-- The key sets of a state are those of the key machine of a log, and the parts of a move keep that. Assumes nothing.
use Prim.Native.Nat.{ℕ, suc, ◌<◌, ◌≤◌}
use native.Mathlib.Omega.{arith}
use native.Mathlib.Decide.{ℕ_discrete}
use mathlib.Core.Path.{◌≡◌, refl, sym, ap, ◌∙◌, subst as along}
use mathlib.Core.Bool.{Bool, true, false, not, true≢false, false≢true}
use mathlib.Core.List.{List}
use mathlib.Core.Logic.{◌⊎◌, inl, inr}
use mathlib.Core.Option.{Option, some, none}
use lib.ListN.{length, get_elem?}
use lib.Dec.{T}
use Rattle.run_keys.specs.Keys.{Keys, empty, singleton, union, holds, is_empty}
use Rattle.plan_packed.specs.Syntax.{Expression, Program}
use Rattle.rules.specs.State.{Cell, Thread, State, fresh, fresh_object, lookup, monitor, store, store_monitor, add_object, change_at, gain, become}
use Rattle.rules.specs.State.{add_thread, use_key}
use Rattle.log_order.proofs.KeySets.{KeySet, no_keys, put, put_same, put_other, put₂, put₂_same, put₂_other}
use Rattle.log_order.proofs.KeyMachine.{KeyState, monitor_taken, thread_knows, plain_keyed, volatile_knows, monitor_freed, thread_forked}
use Rattle.rules.specs.Rules.{is_volatile}
use Rattle.rules.proofs.Relocated.{Relocated, with_threads, relocated_length, was_there}
use Rattle.rules.proofs.StateLaws.{added, length_added, change_length, store_same, store_other, store_monitor_lem, lock_same, lock_other, lock_lookup}
use Rattle.rules.proofs.StateLaws.{new_lookup, new_monitors, who, whose}
use Rattle.run_keys.proofs.KeyLaws.{holds_empty, empty_union}

-- the keys of a place: a place that is not there is as good as fresh
abbrev pub keys_of : Option Cell → Keys
keys_of none = singleton 0
keys_of (some c) = c.keys

pub record Agrees (g : Program) (s : State) (κ : KeyState) : Type 0 where
  pub present : (p : ℕ) (t : Thread) → get_elem? s.threads p ≡ some t → T (κ.present p)
  pub absent : (p : ℕ) → length s.threads ≤ p → T (not (κ.present p))
  pub knows : (p : ℕ) (t : Thread) → get_elem? s.threads p ≡ some t → (k : ℕ) → κ.knows p k ≡ holds t.keys k
  pub plain : (o f : ℕ) → is_volatile g f ≡ false → keys_of (lookup s o f) ≡ singleton (κ.plain o f)
  pub volatiles : (o f : ℕ) → is_volatile g f ≡ true → (k : ℕ) → κ.volatiles o f k ≡ holds (keys_of (lookup s o f)) k
  pub monitors : (o k : ℕ) → κ.monitors o k ≡ holds (keys_of (monitor s o)) k
  pub owner : (o : ℕ) (c : Cell) → monitor s o ≡ some c → is_empty c.keys ≡ true → (p : ℕ) (t : Thread) → get_elem? s.threads p ≡ some t
      → c.value ≡ t.self → κ.owner o ≡ p
  pub next : κ.next ≡ s.next_key

-- ---- one thread changes; its self does not

module _ (g : Program) (s : State) (κ : KeyState) (A : Agrees g s κ) (p : ℕ) (h : Thread → Thread) (t : Thread) (at : get_elem? s.threads p ≡ some t)
    (self : (h t).self ≡ t.self) where
  abbrev after : State
  after = record { objects = s.objects; threads = change_at s.threads p h; next_key = s.next_key }

  same_count : length (change_at s.threads p h) ≡ length s.threads
  same_count = change_length s.threads p h

  -- what thread q is after the change
  abbrev Is : ℕ → Thread → Type 0
  Is q u = ((p ≡ q) × (h t ≡ u)) ⊎ ((p ≡ q → ⊥) × (get_elem? s.threads q ≡ some u))

  agrees_when : (knows : ℕ → KeySet) → ((q : ℕ) (u : Thread) (k : ℕ) → Is q u → knows q k ≡ holds u.keys k)
      → Agrees g after (record {
        present = κ.present;
        knows = knows;
        plain = κ.plain;
        volatiles = κ.volatiles;
        monitors = κ.monitors;
        owner =
            κ.owner;
        next = κ.next;
      })
  unfolding lookup monitor
  agrees_when knows known = record {
    present = λ q u e. let w = whose s.threads p h t at self q u e in A.present q w.0 w.1;
    absent = λ q l. A.absent q (omega (arith, same_count));
    knows = λ q u e k. known q u k (who s.threads p h t at q u e);
    plain = λ o f v. A.plain o f v;
    volatiles = λ o f v k. A.volatiles o f v k;
    monitors = λ o k. A.monitors o k;
    owner = λ o c m e q u i v. let w = whose s.threads p h t at self q u i in A.owner o c m e q w.0 w.1 (v ∙ w.2);
    next = A.next;
  }

  -- the thread's set becomes a
  pub agrees_change : (a : KeySet) → ((k : ℕ) → a k ≡ holds (h t).keys k) → Agrees g after (thread_knows p a κ)
  agrees_change a same = agrees_when (put κ.knows p a) known
    where
      known : (q : ℕ) (u : Thread) (k : ℕ) → Is q u → put κ.knows p a q k ≡ holds u.keys k
      known q u k (inl (x, y)) = ap (λ (b : ℕ). put κ.knows p a b k) (sym x) ∙ ap (λ (b : KeySet). b k) (put_same κ.knows p a) ∙ same k
          ∙ ap (λ (z : Thread). holds z.keys k) y
      known q u k (inr (x, y)) = ap (λ (b : KeySet). b k) (put_other κ.knows p a q x) ∙ A.knows q u y k

  -- its set stays
  pub agrees_keep : (h t).keys ≡ t.keys → Agrees g after κ
  agrees_keep same = agrees_when κ.knows known
    where
      known : (q : ℕ) (u : Thread) (k : ℕ) → Is q u → κ.knows q k ≡ holds u.keys k
      known q u k (inl (x, y)) = A.knows q t (rw (← x) at) k ∙ ap (λ (W : Keys). holds W k) (sym same) ∙ ap (λ (z : Thread). holds z.keys k) y
      known q u k (inr (x, y)) = A.knows q u y k

pub agrees_become : (g : Program) (s : State) (κ : KeyState) (p : ℕ) (e : Expression) (t : Thread) → get_elem? s.threads p ≡ some t → Agrees g s κ
    → Agrees g (become s p e) κ
unfolding become
agrees_become g s κ p e t at A = agrees_keep g s κ A p _ t at refl refl

pub agrees_gain : (g : Program) (s : State) (κ : KeyState) (p : ℕ) (W : Keys) (n : Keys → ℕ) (t : Thread) (a : KeySet) → get_elem? s.threads p ≡ some t
    → ((k : ℕ) → a k ≡ holds (union W t.keys) k) → Agrees g s κ → Agrees g (gain s p W n) (thread_knows p a κ)
unfolding gain
agrees_gain g s κ p W n t a at same A = agrees_change g s κ A p _ t at refl a same

-- a thread that hears nothing
pub agrees_unheard : (g : Program) (s : State) (κ : KeyState) (p : ℕ) (n : Keys → ℕ) (t : Thread) → get_elem? s.threads p ≡ some t → Agrees g s κ
    → Agrees g (gain s p empty n) κ
unfolding gain
agrees_unheard g s κ p n t at A = agrees_keep g s κ A p _ t at refl (empty_union t.keys)

-- ---- fields

module _ (g : Program) (s : State) (κ : KeyState) (A : Agrees g s κ) (o f : ℕ) (c d : Cell) (was : lookup s o f ≡ some d) where
  stored : (o' f' : ℕ) → ((o ≡ o') × (f ≡ f') × (lookup (store s o f c) o' f' ≡ some c)) ⊎
      ((o ≡ o' → f ≡ f' → ⊥) × (lookup (store s o f c) o' f' ≡ lookup s o' f'))
  stored o' f' = go (ℕ_discrete o o') (ℕ_discrete f f')
    where
      go : Dec (o ≡ o') → Dec (f ≡ f')
          → ((o ≡ o') × (f ≡ f') × (lookup (store s o f c) o' f' ≡ some c)) ⊎ ((o ≡ o' → f ≡ f' → ⊥) × (lookup (store s o f c) o' f' ≡ lookup s o' f'))
      go (yes x) (yes y) = inl (
        x,
        y,
        ap (λ (a : ℕ). lookup (store s o f c) a f') (sym x) ∙ ap (λ (b : ℕ). lookup (store s o f c) o b) (sym y)
            ∙ store_same s o f c d was,
      )
      go (yes x) (no y) = inr (λ a b. y b, store_other s o f c o' f' (λ a b. y b))
      go (no x) y = inr (λ a b. x a, store_other s o f c o' f' (λ a b. x a))

  -- a plain field takes the next unused key
  pub agrees_keyed : is_volatile g f ≡ false → c.keys ≡ singleton s.next_key → Agrees g (use_key (store s o f c)) (plain_keyed o f κ)
  unfolding store use_key
  agrees_keyed vol new = record {
    present = λ q u e. A.present q u e;
    absent = λ q l. A.absent q l;
    knows = λ q u e k. A.knows q u e k;
    plain = λ o' f' v. plain' o' f' v (stored o' f');
    volatiles = λ o' f' v k. volat' o' f' v k (stored o' f');
    monitors = λ o' k. A.monitors o' k ∙ ap (λ (x : Option Cell). holds (keys_of x) k) (sym (monitor' o'));
    owner = λ o' c' m e q u i v. A.owner o' c' (sym (monitor' o') ∙ m) e q u i v;
    next = ap suc A.next;
  }
    where
      monitor' : (o' : ℕ) → monitor (use_key (store s o f c)) o' ≡ monitor s o'
      monitor' o' = unfold monitor in (store_monitor_lem s o f c o')

      lookup' : (o' f' : ℕ) → lookup (use_key (store s o f c)) o' f' ≡ lookup (store s o f c) o' f'
      lookup' o' f' = unfold lookup in refl

      plain' : (o' f' : ℕ) → is_volatile g f' ≡ false
          → ((o ≡ o') × (f ≡ f') × (lookup (store s o f c) o' f' ≡ some c)) ⊎ ((o ≡ o' → f ≡ f' → ⊥) × (lookup (store s o f c) o' f' ≡ lookup s o' f'))
          → keys_of (lookup (use_key (store s o f c)) o' f') ≡ singleton (put₂ κ.plain o f κ.next o' f')
      plain' o' f' v (inl (x, y, z)) =
          ap keys_of (lookup' o' f' ∙ z) ∙ new
          ∙ ap singleton (sym A.next ∙ sym (put₂_same κ.plain o f κ.next) ∙ ap (λ (a : ℕ). put₂ κ.plain o f κ.next a f) x
          ∙ ap (λ (b : ℕ). put₂ κ.plain o f κ.next o' b) y)
      plain' o' f' v (inr (x, z)) = ap keys_of (lookup' o' f' ∙ z) ∙ A.plain o' f' v ∙ ap singleton (sym (put₂_other κ.plain o f κ.next o' f' x))

      volat' : (o' f' : ℕ) → is_volatile g f' ≡ true → (k : ℕ)
          → ((o ≡ o') × (f ≡ f') × (lookup (store s o f c) o' f' ≡ some c)) ⊎ ((o ≡ o' → f ≡ f' → ⊥) × (lookup (store s o f c) o' f' ≡ lookup s o' f'))
          → κ.volatiles o' f' k ≡ holds (keys_of (lookup (use_key (store s o f c)) o' f')) k
      volat' o' f' v k (inl (x, y, z)) = absurd (false≢true (sym vol ∙ ap (is_volatile g) y ∙ v))
      volat' o' f' v k (inr (x, z)) = A.volatiles o' f' v k ∙ ap (λ (e : Option Cell). holds (keys_of e) k) (sym (lookup' o' f' ∙ z))

  -- what field f' of o' holds after the store
  abbrev Holds : ℕ → ℕ → Type 0
  Holds o' f' = ((o ≡ o') × (f ≡ f') × (lookup (store s o f c) o' f' ≡ some c)) ⊎ ((o ≡ o' → f ≡ f' → ⊥) × (lookup (store s o f c) o' f' ≡ lookup s o' f'))

  -- a volatile field is stored, and the sets of volatile fields are these
  stored_when : is_volatile g f ≡ true → (volatiles : ℕ → ℕ → KeySet)
      → ((o' f' : ℕ) → is_volatile g f' ≡ true → (k : ℕ) → Holds o' f' → volatiles o' f' k ≡ holds (keys_of (lookup (store s o f c) o' f')) k)
      → Agrees g (store s o f c) (record {
        present = κ.present;
        knows = κ.knows;
        plain = κ.plain;
        volatiles = volatiles;
        monitors = κ.monitors;
        owner =
            κ.owner;
        next = κ.next;
      })
  unfolding store
  stored_when vol volatiles held = record {
    present = λ q u e. A.present q u e;
    absent = λ q l. A.absent q l;
    knows = λ q u e k. A.knows q u e k;
    plain = λ o' f' v. plain' o' f' v (stored o' f');
    volatiles = λ o' f' v k. held o' f' v k (stored o' f');
    monitors = λ o' k. A.monitors o' k ∙ ap (λ (x : Option Cell). holds (keys_of x) k) (sym (store_monitor_lem s o f c o'));
    owner = λ o' c' m e q u i v. A.owner o' c' (sym (store_monitor_lem s o f c o') ∙ m) e q u i v;
    next = A.next;
  }
    where
      plain' : (o' f' : ℕ) → is_volatile g f' ≡ false → Holds o' f' → keys_of (lookup (store s o f c) o' f') ≡ singleton (κ.plain o' f')
      plain' o' f' v (inl (x, y, z)) = absurd (true≢false (sym vol ∙ ap (is_volatile g) y ∙ v))
      plain' o' f' v (inr (x, z)) = ap keys_of z ∙ A.plain o' f' v

  -- a volatile field takes a set
  pub agrees_told : is_volatile g f ≡ true → (a : KeySet) → ((k : ℕ) → a k ≡ holds c.keys k) → Agrees g (store s o f c) (volatile_knows o f a κ)
  agrees_told vol a new = stored_when vol (put₂ κ.volatiles o f a) held
    where
      held : (o' f' : ℕ) → is_volatile g f' ≡ true → (k : ℕ) → Holds o' f' → put₂ κ.volatiles o f a o' f' k ≡ holds (keys_of (lookup (store s o f c) o' f')) k
      held o' f' v k (inl (x, y, z)) =
          ap (λ (b : ℕ). put₂ κ.volatiles o f a b f' k) (sym x) ∙ ap (λ (b : ℕ). put₂ κ.volatiles o f a o b k) (sym y)
          ∙ ap (λ (b : KeySet). b k) (put₂_same κ.volatiles o f a) ∙ new k
          ∙ ap (λ (e : Option Cell). holds (keys_of e) k) (sym z)
      held o' f' v k (inr (x, z)) = ap (λ (b : KeySet). b k) (put₂_other κ.volatiles o f a o' f' x) ∙ A.volatiles o' f' v k
          ∙ ap (λ (e : Option Cell). holds (keys_of e) k) (sym z)

  -- a volatile field takes a value and keeps its set
  pub agrees_valued : is_volatile g f ≡ true → c.keys ≡ d.keys → Agrees g (store s o f c) κ
  agrees_valued vol same = stored_when vol κ.volatiles held
    where
      held : (o' f' : ℕ) → is_volatile g f' ≡ true → (k : ℕ) → Holds o' f' → κ.volatiles o' f' k ≡ holds (keys_of (lookup (store s o f c) o' f')) k
      held o' f' v k (inl (x, y, z)) =
          A.volatiles o' f' v k ∙ ap (λ (e : Option Cell). holds (keys_of e) k) (ap (λ (b : ℕ). lookup s b f') (sym x) ∙ ap (lookup s o) (sym y) ∙ was)
          ∙ ap (λ (W : Keys). holds W k) (sym same) ∙ ap (λ (e : Option Cell). holds (keys_of e) k) (sym z)
      held o' f' v k (inr (x, z)) = A.volatiles o' f' v k ∙ ap (λ (e : Option Cell). holds (keys_of e) k) (sym z)

-- ---- monitors

module _ (g : Program) (s : State) (κ : KeyState) (A : Agrees g s κ) (o : ℕ) (c d : Cell) (was : monitor s o ≡ some d) where
  abbrev locked : State
  locked = store_monitor s o c

  which : (o' : ℕ) → ((o ≡ o') × (monitor locked o' ≡ some c)) ⊎ ((o ≡ o' → ⊥) × (monitor locked o' ≡ monitor s o'))
  which o' = go (ℕ_discrete o o')
    where
      go : Dec (o ≡ o') → ((o ≡ o') × (monitor locked o' ≡ some c)) ⊎ ((o ≡ o' → ⊥) × (monitor locked o' ≡ monitor s o'))
      go (yes x) = inl (x, ap (λ (a : ℕ). monitor locked a) (sym x) ∙ lock_same s o c d was)
      go (no x) = inr (x, lock_other s o c o' x)

  monitors' : (a : KeySet) → ((k : ℕ) → a k ≡ holds c.keys k) → (o' k : ℕ) → put κ.monitors o a o' k ≡ holds (keys_of (monitor locked o')) k
  monitors' a new o' k = go (which o')
    where
      go : ((o ≡ o') × (monitor locked o' ≡ some c)) ⊎ ((o ≡ o' → ⊥) × (monitor locked o' ≡ monitor s o'))
          → put κ.monitors o a o' k ≡ holds (keys_of (monitor locked o')) k
      go (inl (x, z)) = ap (λ (b : ℕ). put κ.monitors o a b k) (sym x) ∙ ap (λ (b : KeySet). b k) (put_same κ.monitors o a) ∙ new k
          ∙ ap (λ (e : Option Cell). holds (keys_of e) k) (sym z)
      go (inr (x, z)) = ap (λ (b : KeySet). b k) (put_other κ.monitors o a o' x) ∙ A.monitors o' k ∙ ap (λ (e : Option Cell). holds (keys_of e) k) (sym z)

  -- thread p seizes it
  pub agrees_seized : (p : ℕ) → c.keys ≡ empty → ((q : ℕ) (u : Thread) → get_elem? s.threads q ≡ some u → c.value ≡ u.self → p ≡ q)
      → Agrees g locked (monitor_taken o p κ)
  unfolding store_monitor
  agrees_seized p none' mine = record {
    present = λ q u e. A.present q u e;
    absent = λ q l. A.absent q l;
    knows = λ q u e k. A.knows q u e k;
    plain = λ o' f' v. ap keys_of (lock_lookup s o c o' f') ∙ A.plain o' f' v;
    volatiles = λ o' f' v k. A.volatiles o' f' v k ∙ ap (λ (x : Option Cell). holds (keys_of x) k) (sym (lock_lookup s o c o' f'));
    monitors = λ o' k. monitors' no_keys (λ k. unfold no_keys in (sym (ap (λ (W : Keys). holds W k) none' ∙ holds_empty k))) o' k;
    owner = λ o' c' m e q u i v. owner' o' c' m e q u i v (which o');
    next = A.next;
  }
    where
      owner' : (o' : ℕ) (c' : Cell) → monitor locked o' ≡ some c' → is_empty c'.keys ≡ true → (q : ℕ) (u : Thread) → get_elem? s.threads q ≡ some u
          → c'.value ≡ u.self → ((o ≡ o') × (monitor locked o' ≡ some c)) ⊎ ((o ≡ o' → ⊥) × (monitor locked o' ≡ monitor s o')) → put κ.owner o p o' ≡ q
      owner' o' c' m e q u i v (inl (x, z)) =
          let j : some c ≡ some c' = sym z ∙ m in
          let y : c ≡ c' = cc in
          ap (λ (b : ℕ). put κ.owner o p b) (sym x) ∙ put_same κ.owner o p ∙ mine q u i (ap (λ (z : Cell). z.value) y ∙ v)
      owner' o' c' m e q u i v (inr (x, z)) = put_other κ.owner o p o' x ∙ A.owner o' c' (sym z ∙ m) e q u i v

  -- it is monitorFreed, with a set that is not empty
  pub agrees_freed : is_empty c.keys ≡ false → (a : KeySet) → ((k : ℕ) → a k ≡ holds c.keys k) → Agrees g locked (monitor_freed o a κ)
  unfolding store_monitor
  agrees_freed full a new = record {
    present = λ q u e. A.present q u e;
    absent = λ q l. A.absent q l;
    knows = λ q u e k. A.knows q u e k;
    plain = λ o' f' v. ap keys_of (lock_lookup s o c o' f') ∙ A.plain o' f' v;
    volatiles = λ o' f' v k. A.volatiles o' f' v k ∙ ap (λ (x : Option Cell). holds (keys_of x) k) (sym (lock_lookup s o c o' f'));
    monitors = λ o' k. monitors' a new o' k;
    owner = λ o' c' m e q u i v. owner' o' c' m e q u i v (which o');
    next = A.next;
  }
    where
      owner' : (o' : ℕ) (c' : Cell) → monitor locked o' ≡ some c' → is_empty c'.keys ≡ true → (q : ℕ) (u : Thread) → get_elem? s.threads q ≡ some u
          → c'.value ≡ u.self → ((o ≡ o') × (monitor locked o' ≡ some c)) ⊎ ((o ≡ o' → ⊥) × (monitor locked o' ≡ monitor s o')) → κ.owner o' ≡ q
      owner' o' c' m e q u i v (inl (x, z)) =
          let j : some c ≡ some c' = sym z ∙ m in
          let y : c ≡ c' = cc in
          let w : false ≡ true = sym full ∙ ap (λ (z : Cell). is_empty z.keys) y ∙ e in
          absurd (true≢false cc)
      owner' o' c' m e q u i v (inr (x, z)) = A.owner o' c' (sym z ∙ m) e q u i v

-- ---- new objects and threads

pub agrees_new : (g : Program) (s : State) (κ : KeyState) (fs : List ℕ) → Agrees g s κ → Agrees g (add_object s (fresh_object fs)) κ
unfolding add_object fresh is_empty
agrees_new g s κ fs A = record {
  present = λ q u e. A.present q u e;
  absent = λ q l. A.absent q l;
  knows = λ q u e k. A.knows q u e k;
  plain = λ o f v. same_field o f (new_lookup s fs o f) ∙ A.plain o f v;
  volatiles = λ o f v k. A.volatiles o f v k ∙ ap (λ (W : Keys). holds W k) (sym (same_field o f (new_lookup s fs o f)));
  monitors = λ o k. A.monitors o k ∙ ap (λ (W : Keys). holds W k) (sym (same_monitor o (new_monitors s fs o)));
  owner = λ o c m e q u i v. owner' o c m e q u i v (new_monitors s fs o);
  next = A.next;
}
  where
    s₁ : State
    s₁ = add_object s (fresh_object fs)

    same_field : (o f : ℕ) → (lookup s₁ o f ≡ lookup s o f) ⊎ ((length s.objects ≡ o) × (lookup s o f ≡ none) × (lookup s₁ o f ≡ some fresh))
        → keys_of (lookup s₁ o f) ≡ keys_of (lookup s o f)
    same_field o f (inl h) = ap keys_of h
    same_field o f (inr (_, h, k)) = ap keys_of k ∙ sym (ap keys_of h)

    same_monitor : (o : ℕ) → (monitor s₁ o ≡ monitor s o) ⊎ ((length s.objects ≡ o) × (monitor s o ≡ none) × (monitor s₁ o ≡ some fresh))
        → keys_of (monitor s₁ o) ≡ keys_of (monitor s o)
    same_monitor o (inl h) = ap keys_of h
    same_monitor o (inr (_, h, k)) = ap keys_of k ∙ sym (ap keys_of h)

    owner' : (o : ℕ) (c : Cell) → monitor s₁ o ≡ some c → is_empty c.keys ≡ true → (q : ℕ) (u : Thread) → get_elem? s.threads q ≡ some u
        → c.value ≡ u.self
        → (monitor s₁ o ≡ monitor s o) ⊎ ((length s.objects ≡ o) × (monitor s o ≡ none) × (monitor s₁ o ≡ some fresh)) → κ.owner o ≡ q
    owner' o c m e q u i v (inl h) = A.owner o c (sym h ∙ m) e q u i v
    owner' o c m e q u i v (inr (_, h, k)) =
        let j : some fresh ≡ some c = sym k ∙ m in
        let y : fresh ≡ c = cc in
        let w : false ≡ true = ap (λ (z : Cell). is_empty z.keys) y ∙ e in
        absurd (true≢false cc)

pub agrees_started : (g : Program) (s : State) (κ : KeyState) (u : Thread) (a : KeySet) → Agrees g s κ → ((k : ℕ) → a k ≡ holds u.keys k)
    → ((o : ℕ) (c : Cell) → monitor s o ≡ some c → is_empty c.keys ≡ true → c.value ≡ u.self → ⊥)
    → Agrees g (add_thread s u) (thread_forked (length s.threads) a κ)
unfolding add_thread lookup monitor
agrees_started g s κ u a A same new = record {
  present = λ q w e. present' q w (added s.threads u q w e);
  absent = λ q l. along (λ (b : Bool). T (not b))
      (sym (put_other κ.present (length s.threads) true q (λ e. let b = l in omega (arith, length_added s.threads u))))
      (A.absent q (omega (arith, length_added s.threads u)));
  knows = λ q w e k. knows' q w k (added s.threads u q w e);
  plain = λ o f v. A.plain o f v;
  volatiles = λ o f v k. A.volatiles o f v k;
  monitors = λ o k. A.monitors o k;
  owner = λ o c m e q w i v. owner' o c m e q w v (added s.threads u q w i);
  next = A.next;
}
  where
    L : ℕ
    L = length s.threads

    present' : (q : ℕ) (w : Thread) → ((q < L) × (get_elem? s.threads q ≡ some w)) ⊎ ((q ≡ L) × (u ≡ w)) → T (put κ.present L true q)
    present' q w (inl (x, y)) = along T (sym (put_other κ.present L true q (λ e. omega arith))) (A.present q w y)
    present' q w (inr (x, y)) = along T (sym (ap (λ (b : ℕ). put κ.present L true b) x ∙ put_same κ.present L true)) tt

    knows' : (q : ℕ) (w : Thread) (k : ℕ) → ((q < L) × (get_elem? s.threads q ≡ some w)) ⊎ ((q ≡ L) × (u ≡ w)) → put κ.knows L a q k ≡ holds w.keys k
    knows' q w k (inl (x, y)) = ap (λ (b : KeySet). b k) (put_other κ.knows L a q (λ e. omega arith)) ∙ A.knows q w y k
    knows' q w k (inr (x, y)) = ap (λ (b : ℕ). put κ.knows L a b k) x ∙ ap (λ (b : KeySet). b k) (put_same κ.knows L a) ∙ same k
        ∙ ap (λ (z : Thread). holds z.keys k) y

    owner' : (o : ℕ) (c : Cell) → monitor s o ≡ some c → is_empty c.keys ≡ true → (q : ℕ) (w : Thread) → c.value ≡ w.self
        → ((q < L) × (get_elem? s.threads q ≡ some w)) ⊎ ((q ≡ L) × (u ≡ w)) → κ.owner o ≡ q
    owner' o c m e q w v (inl (x, y)) = A.owner o c m e q w y v
    owner' o c m e q w v (inr (x, y)) = absurd (new o c m e (v ∙ ap (λ (z : Thread). z.self) (sym y)))

-- ---- places alone change

pub agrees_relocated : (g : Program) (s : State) (κ : KeyState) (us : List Thread) → Relocated s.threads us → Agrees g s κ → Agrees g (with_threads s us) κ
unfolding lookup monitor
agrees_relocated g s κ us r A = record {
  present = λ p u e. let w = was_there s.threads us r p u e in A.present p w.0 w.1;
  absent = λ p e. A.absent p (omega (arith, relocated_length s.threads us r));
  knows = λ p u e k. let w = was_there s.threads us r p u e in A.knows p w.0 w.1 k ∙ ap (λ (z : Thread). holds z.keys k) w.2;
  plain = A.plain;
  volatiles = A.volatiles;
  monitors = A.monitors;
  owner = λ o c m i p u e v. let w = was_there s.threads us r p u e in A.owner o c m i p w.0 w.1 (v ∙ sym (ap (λ (z : Thread). z.self) w.2));
  next = A.next;
}
