-- Laws of the state: what a store, a new object and a changed thread leave where. Assumes nothing.
use Prim.Native.Nat.{ℕ, zero, suc, ◌<◌, ◌≤◌, ◌+◌}
use native.Mathlib.Omega.{arith}
use native.Mathlib.Decide.{ℕ_discrete}
use mathlib.Core.Path.{◌≡◌, refl, sym, ap, ◌∙◌}
use mathlib.Core.Bool.{Bool, true, false, cond, true≢false}
use mathlib.Core.List.{List, [], ◌∷◌, ◌++◌}
use mathlib.Core.Logic.{◌⊎◌, inl, inr}
use mathlib.Core.Option.{Option, some, none, map}
use lib.Dec.{eqb}
use lib.ListN.{length, get_elem?, length-append}
use borrow.Author.Tests.{eq-eqb, ne_eqb, eqb-true}
use Rattle.rules.specs.State.{Form, ThreadOf, NumberedOf, Cell, Field, Object, Thread, State, fresh, fresh_fields, fresh_object, find_field, store_field}
use Rattle.rules.specs.State.{field_of, monitor_of, lookup}
use Rattle.rules.specs.State.{monitor, change_at, store, store_monitor, add_object, thread_of}

-- ---- lists

module _ {A : Type 0} where
  pub there : (l : List A) (i : ℕ) → i < length l → (x : A) × (get_elem? l i ≡ some x)
  there [] i h = absurd (omega arith)
  there (x ∷ l) zero h = (x, refl)
  there (x ∷ l) (suc i) h = there l i (omega arith)

  pub inside : (l : List A) (i : ℕ) (x : A) → get_elem? l i ≡ some x → i < length l
  inside [] i x h = absurd (true≢false cc)
  inside (y ∷ l) zero x h = omega arith
  inside (y ∷ l) (suc i) x h = let b = inside l i x h in omega arith

  pub outside : (l : List A) (i : ℕ) → length l ≤ i → get_elem? l i ≡ none
  outside [] i h = refl
  outside (y ∷ l) zero h = absurd (omega arith)
  outside (y ∷ l) (suc i) h = outside l i (omega arith)

  pub added_other : (l : List A) (x : A) (i : ℕ) → (i ≡ length l → ⊥) → get_elem? (l ++ (x ∷ [])) i ≡ get_elem? l i
  added_other [] x zero n = absurd (n refl)
  added_other [] x (suc i) n = refl
  added_other (y ∷ l) x zero n = refl
  added_other (y ∷ l) x (suc i) n = added_other l x i (λ e. n (ap suc e))

  pub added_old : (l : List A) (x : A) (i : ℕ) → i < length l → get_elem? (l ++ (x ∷ [])) i ≡ get_elem? l i
  added_old l x i h = added_other l x i (λ e. omega arith)

  pub added_new : (l : List A) (x : A) → get_elem? (l ++ (x ∷ [])) (length l) ≡ some x
  added_new [] x = refl
  added_new (y ∷ l) x = added_new l x

  pub added : (l : List A) (x : A) (i : ℕ) (u : A) → get_elem? (l ++ (x ∷ [])) i ≡ some u
      → ((i < length l) × (get_elem? l i ≡ some u)) ⊎ ((i ≡ length l) × (x ≡ u))
  added [] x zero u h = inr (refl, cc)
  added [] x (suc i) u h = absurd (true≢false cc)
  added (y ∷ l) x zero u h = inl (omega arith, h)
  added (y ∷ l) x (suc i) u h = up (added l x i u h)
    where
      up : ((i < length l) × (get_elem? l i ≡ some u)) ⊎ ((i ≡ length l) × (x ≡ u))
          → ((suc i < suc (length l)) × (get_elem? l i ≡ some u)) ⊎ ((suc i ≡ suc (length l)) × (x ≡ u))
      up (inl (a, b)) = inl (omega arith, b)
      up (inr (a, b)) = inr (ap suc a, b)

  pub length_added : (l : List A) (x : A) → length (l ++ (x ∷ [])) ≡ suc (length l)
  length_added l x = omega (arith, length-append l (x ∷ []))

-- ---- a list with one element changed

module _ {A : Type 0} where
  change_at_lem : (xs : List A) (i : ℕ) (h : A → A) → get_elem? (change_at xs i h) i ≡ map h (get_elem? xs i)
  unfolding change_at
  change_at_lem [] i h = refl
  change_at_lem (x ∷ xs) zero h = refl
  change_at_lem (x ∷ xs) (suc i) h = change_at_lem xs i h

  pub change_same : (xs : List A) (i : ℕ) (h : A → A) (x : A) → get_elem? xs i ≡ some x → get_elem? (change_at xs i h) i ≡ some (h x)
  change_same xs i h x e = change_at_lem xs i h ∙ ap (λ (y : Option A). map h y) e

  pub change_other : (xs : List A) (i : ℕ) (h : A → A) (j : ℕ) → (i ≡ j → ⊥) → get_elem? (change_at xs i h) j ≡ get_elem? xs j
  unfolding change_at
  change_other [] i h j n = refl
  change_other (x ∷ xs) zero h zero n = absurd (n refl)
  change_other (x ∷ xs) zero h (suc j) n = refl
  change_other (x ∷ xs) (suc i) h zero n = refl
  change_other (x ∷ xs) (suc i) h (suc j) n = change_other xs i h j (λ e. n (ap suc e))

  -- an element of the changed list is an old one, or an old one changed
  pub changed : (xs : List A) (i : ℕ) (h : A → A) (j : ℕ) (y : A) → get_elem? (change_at xs i h) j ≡ some y
      → (x : A) × (get_elem? xs j ≡ some x) × ((x ≡ y) ⊎ (h x ≡ y))
  unfolding change_at
  changed [] i h j y e = absurd (true≢false cc)
  changed (x ∷ xs) zero h zero y e = (x, refl, inr (cc))
  changed (x ∷ xs) zero h (suc j) y e = (y, e, inl refl)
  changed (x ∷ xs) (suc i) h zero y e = (x, refl, inl (cc))
  changed (x ∷ xs) (suc i) h (suc j) y e = changed xs i h j y e

  pub change_length : (xs : List A) (i : ℕ) (h : A → A) → length (change_at xs i h) ≡ length xs
  unfolding change_at
  change_length [] i h = refl
  change_length (x ∷ xs) zero h = refl
  change_length (x ∷ xs) (suc i) h = ap suc (change_length xs i h)

-- who stands at q after thread p, which was t, has changed
pub who : (ts : List Thread) (p : ℕ) (h : Thread → Thread) (t : Thread) → get_elem? ts p ≡ some t → (q : ℕ) (u : Thread) → get_elem? (change_at ts p h) q ≡ some u
    → ((p ≡ q) × (h t ≡ u)) ⊎ ((p ≡ q → ⊥) × (get_elem? ts q ≡ some u))
who ts p h t at q u e = go (ℕ_discrete p q)
  where
    go : Dec (p ≡ q) → ((p ≡ q) × (h t ≡ u)) ⊎ ((p ≡ q → ⊥) × (get_elem? ts q ≡ some u))
    go (yes x) = let k : some (h t) ≡ some u = sym (change_same ts p h t at) ∙ ap (λ (a : ℕ). get_elem? (change_at ts p h) a) x ∙ e in inl (x, cc)
    go (no x) = inr (x, sym (change_other ts p h q x) ∙ e)

-- with whose self, where thread p's stays
pub whose : (ts : List Thread) (p : ℕ) (h : Thread → Thread) (t : Thread) → get_elem? ts p ≡ some t → (h t).self ≡ t.self → (q : ℕ) (u : Thread)
    → get_elem? (change_at ts p h) q ≡ some u
    → (v : Thread) × (get_elem? ts q ≡ some v) × (u.self ≡ v.self)
whose ts p h t at self q u e = go (who ts p h t at q u e)
  where
    go : ((p ≡ q) × (h t ≡ u)) ⊎ ((p ≡ q → ⊥) × (get_elem? ts q ≡ some u)) → (v : Thread) × (get_elem? ts q ≡ some v) × (u.self ≡ v.self)
    go (inl (x, y)) = (t, rw (← x) at, ap (λ (z : Thread). z.self) (sym y) ∙ self)
    go (inr (x, y)) = (u, y, refl)

-- ---- fields of one object

field_same : (xs : List Field) (f : ℕ) (c d : Cell) → find_field xs f ≡ some d → find_field (store_field xs f c) f ≡ some c
unfolding find_field store_field
field_same [] f c d h = absurd (true≢false cc)
field_same (x ∷ xs) f c d h = go (eqb x.name f) refl (field_same xs f c d)
  where
    go : (b : Bool) → eqb x.name f ≡ b → (find_field xs f ≡ some d → find_field (store_field xs f c) f ≡ some c)
        → find_field (cond b (record { name = f; cell = c } ∷ xs) (x ∷ store_field xs f c)) f ≡ some c
    go true q k = rw (eq-eqb f f refl)
    go false q k = rw q (k (rw q at h))

field_other : (xs : List Field) (f : ℕ) (c : Cell) (k : ℕ) → (f ≡ k → ⊥) → find_field (store_field xs f c) k ≡ find_field xs k
unfolding find_field store_field
field_other [] f c k n = refl
field_other (x ∷ xs) f c k n = go (eqb x.name f) refl (field_other xs f c k n)
  where
    go : (b : Bool) → eqb x.name f ≡ b → find_field (store_field xs f c) k ≡ find_field xs k
        → find_field (cond b (record { name = f; cell = c } ∷ xs) (x ∷ store_field xs f c)) k ≡ cond (eqb x.name k) (some x.cell) (find_field xs k)
    go true q r = let e : x.name ≡ f = eqb-true x.name f q in rw (e, ne_eqb f k n)
    go false q r = ap (cond (eqb x.name k) (some x.cell)) r

-- ---- objects

-- any map of one object that leaves the fields, or the monitor, alone
fields_kept : (h : Object → Object) (f : ℕ) → ((x : Object) → (h x).fields ≡ x.fields) → (x : Option Object) → field_of (map h x) f ≡ field_of x f
unfolding field_of
fields_kept h f e none = refl
fields_kept h f e (some x) = ap (λ (l : List Field). find_field l f) (e x)

monitor_kept : (h : Object → Object) → ((x : Object) → (h x).monitor ≡ x.monitor) → (x : Option Object) → monitor_of (map h x) ≡ monitor_of x
unfolding monitor_of
monitor_kept h e none = refl
monitor_kept h e (some x) = ap {B = Option Cell} some (e x)

module _ (s : State) (o f : ℕ) (c : Cell) where
  abbrev put : Object → Object
  put x = record { monitor = x.monitor; fields = store_field x.fields f c }

  put_in_lem : (x : Option Object) (d : Cell) → field_of x f ≡ some d → field_of (map put x) f ≡ some c
  unfolding field_of
  put_in_lem none d h = absurd (true≢false cc)
  put_in_lem (some x) d h = field_same x.fields f c d h

  pub store_same : (d : Cell) → lookup s o f ≡ some d → lookup (store s o f c) o f ≡ some c
  unfolding lookup store
  store_same d h = ap (λ (x : Option Object). field_of x f) (change_at_lem s.objects o put) ∙ put_in_lem (get_elem? s.objects o) d h

  put_out : (x : Option Object) (k : ℕ) → (f ≡ k → ⊥) → field_of (map put x) k ≡ field_of x k
  unfolding field_of
  put_out none k n = refl
  put_out (some x) k n = field_other x.fields f c k n

  pub store_other : (o' f' : ℕ) → (o ≡ o' → f ≡ f' → ⊥) → lookup (store s o f c) o' f' ≡ lookup s o' f'
  unfolding lookup store
  store_other o' f' n = go (ℕ_discrete o o')
    where
      go : Dec (o ≡ o') → field_of (get_elem? (change_at s.objects o put) o') f' ≡ field_of (get_elem? s.objects o') f'
      go (yes e) = rw (← e) (ap (λ (x : Option Object). field_of x f') (change_at_lem s.objects o put) ∙ put_out (get_elem? s.objects o) f' (n e))
      go (no e) = ap (λ (x : Option Object). field_of x f') (change_other s.objects o put o' e)

  pub store_monitor_lem : (o' : ℕ) → monitor (store s o f c) o' ≡ monitor s o'
  unfolding monitor store
  store_monitor_lem o' = go (ℕ_discrete o o')
    where
      go : Dec (o ≡ o') → monitor_of (get_elem? (change_at s.objects o put) o') ≡ monitor_of (get_elem? s.objects o')
      go (yes e) = rw (← e) (ap monitor_of (change_at_lem s.objects o put) ∙ monitor_kept put (λ x. refl) (get_elem? s.objects o))
      go (no e) = ap monitor_of (change_other s.objects o put o' e)

module _ (s : State) (o : ℕ) (c : Cell) where
  abbrev lock : Object → Object
  lock x = record { monitor = c; fields = x.fields }

  lock_in : (x : Option Object) (d : Cell) → monitor_of x ≡ some d → monitor_of (map lock x) ≡ some c
  unfolding monitor_of
  lock_in none d h = absurd (true≢false cc)
  lock_in (some x) d h = refl

  pub lock_same : (d : Cell) → monitor s o ≡ some d → monitor (store_monitor s o c) o ≡ some c
  unfolding monitor store_monitor
  lock_same d h = ap monitor_of (change_at_lem s.objects o lock) ∙ lock_in (get_elem? s.objects o) d h

  pub lock_other : (o' : ℕ) → (o ≡ o' → ⊥) → monitor (store_monitor s o c) o' ≡ monitor s o'
  unfolding monitor store_monitor
  lock_other o' n = ap monitor_of (change_other s.objects o lock o' n)

  pub lock_lookup : (o' f' : ℕ) → lookup (store_monitor s o c) o' f' ≡ lookup s o' f'
  unfolding lookup store_monitor
  lock_lookup o' f' = go (ℕ_discrete o o')
    where
      go : Dec (o ≡ o') → field_of (get_elem? (change_at s.objects o lock) o') f' ≡ field_of (get_elem? s.objects o') f'
      go (yes e) = rw (← e) (ap (λ (x : Option Object). field_of x f') (change_at_lem s.objects o lock)
          ∙ fields_kept lock f' (λ x. refl) (get_elem? s.objects o))
      go (no e) = ap (λ (x : Option Object). field_of x f') (change_other s.objects o lock o' e)

-- ---- new objects

fresh_field : (fs : List ℕ) (f : ℕ) → (find_field (fresh_fields fs) f ≡ none) ⊎ (find_field (fresh_fields fs) f ≡ some fresh)
unfolding find_field fresh_fields
fresh_field [] f = inl refl
fresh_field (x ∷ fs) f = go (eqb x f) (fresh_field fs f)
  where
    go : (b : Bool) → (find_field (fresh_fields fs) f ≡ none) ⊎ (find_field (fresh_fields fs) f ≡ some fresh)
        → (cond b (some fresh) (find_field (fresh_fields fs) f) ≡ none) ⊎ (cond b (some fresh) (find_field (fresh_fields fs) f) ≡ some fresh)
    go true h = inr refl
    go false h = h

module _ (s : State) (fs : List ℕ) where
  pub new_lookup : (o f : ℕ)
      → (lookup (add_object s (fresh_object fs)) o f ≡ lookup s o f) ⊎
      ((length s.objects ≡ o) × (lookup s o f ≡ none) × (lookup (add_object s (fresh_object fs)) o f ≡ some fresh))
  unfolding lookup add_object fresh_object field_of
  new_lookup o f = go (ℕ_discrete o (length s.objects))
    where
      N : List Object
      N = s.objects ++ (fresh_object fs ∷ [])

      go : Dec (o ≡ length s.objects)
          → (field_of (get_elem? N o) f ≡ field_of (get_elem? s.objects o) f) ⊎
          ((length s.objects ≡ o) × (field_of (get_elem? s.objects o) f ≡ none) × (field_of (get_elem? N o) f ≡ some fresh))
      go (no n) = inl (ap (λ (x : Option Object). field_of x f) (added_other s.objects (fresh_object fs) o n))
      go (yes e) = got (fresh_field fs f)
        where
          was : field_of (get_elem? s.objects o) f ≡ none
          was = rw e (rw (outside s.objects (length s.objects) (omega arith)))

          now : field_of (get_elem? N o) f ≡ find_field (fresh_fields fs) f
          now = rw e (rw (added_new s.objects (fresh_object fs)))

          got : (find_field (fresh_fields fs) f ≡ none) ⊎ (find_field (fresh_fields fs) f ≡ some fresh)
              → (field_of (get_elem? N o) f ≡ field_of (get_elem? s.objects o) f) ⊎
              ((length s.objects ≡ o) × (field_of (get_elem? s.objects o) f ≡ none) × (field_of (get_elem? N o) f ≡ some fresh))
          got (inl h) = inl (now ∙ h ∙ sym was)
          got (inr h) = inr (sym e, was, now ∙ h)

  pub new_monitor : (o : ℕ) (c : Cell) → monitor s o ≡ some c → monitor (add_object s (fresh_object fs)) o ≡ some c
  unfolding monitor add_object monitor_of
  new_monitor o c h = ap monitor_of (added_old s.objects (fresh_object fs) o (in_range (get_elem? s.objects o) refl h)) ∙ h
    where
      in_range : (x : Option Object) → get_elem? s.objects o ≡ x → monitor_of x ≡ some c → o < length s.objects
      in_range none e h = absurd (true≢false cc)
      in_range (some x) e h = inside s.objects o x e

  -- the monitors of the longer list
  pub new_monitors : (o : ℕ)
      → (monitor (add_object s (fresh_object fs)) o ≡ monitor s o) ⊎
      ((length s.objects ≡ o) × (monitor s o ≡ none) × (monitor (add_object s (fresh_object fs)) o ≡ some fresh))
  unfolding monitor add_object monitor_of fresh_object
  new_monitors o = go (ℕ_discrete o (length s.objects))
    where
      go : Dec (o ≡ length s.objects)
          → (monitor_of (get_elem? (s.objects ++ (fresh_object fs ∷ [])) o) ≡ monitor_of (get_elem? s.objects o)) ⊎
          ((length s.objects ≡ o) × (monitor_of (get_elem? s.objects o) ≡ none) ×
          (monitor_of (get_elem? (s.objects ++ (fresh_object fs ∷ [])) o) ≡ some fresh))
      go (no n) = inl (ap monitor_of (added_other s.objects (fresh_object fs) o n))
      go (yes e) = inr (sym e, rw e (rw (outside s.objects (length s.objects) (omega arith))), rw e (rw (added_new s.objects (fresh_object fs))))

pub monitor_there : (s : State) (o : ℕ) → o < length s.objects → (c : Cell) × (monitor s o ≡ some c)
unfolding monitor monitor_of
monitor_there s o h = let x = there s.objects o h in (x.0.monitor, ap monitor_of x.1)

-- ---- who a join finds

pub found_thread : {F : Form} (ts : List (ThreadOf F)) (i o : ℕ) (q : NumberedOf F) → thread_of i ts o ≡ some q
    → (j : ℕ) × (q.number ≡ i + j) × (get_elem? ts j ≡ some q.thread) × (q.thread.self ≡ o)
unfolding thread_of
found_thread [] i o q h = absurd (true≢false cc)
found_thread {F} (x ∷ ts) i o q h = go (eqb x.self o) refl h (found_thread ts (suc i) o q)
  where
    go : (b : Bool) → eqb x.self o ≡ b → cond b (some (record { number = i; thread = x })) (thread_of (suc i) ts o) ≡ some q
        → (thread_of (suc i) ts o ≡ some q → (j : ℕ) × (q.number ≡ suc i + j) × (get_elem? ts j ≡ some q.thread) × (q.thread.self ≡ o))
        → (j : ℕ) × (q.number ≡ i + j) × (get_elem? (x ∷ ts) j ≡ some q.thread) × (q.thread.self ≡ o)
    go true e h k =
        let same : ◌≡◌ {A = NumberedOf F} (record { number = i; thread = x }) q = cc in
        let sn : i ≡ q.number = ap (λ (z : NumberedOf F). z.number) same in
        let st : x ≡ q.thread = ap (λ (z : NumberedOf F). z.thread) same in
        (0, omega arith, ap {B = Option (ThreadOf F)} some st, ap (λ (z : ThreadOf F). z.self) (sym st) ∙ eqb-true x.self o e)
    go false e h k = let r = k h in (suc r.0, omega (arith, r.1), r.2, r.3)
