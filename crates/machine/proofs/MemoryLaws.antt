-- A store to memory is a store to its object, a cell that is looked up is the cell, and a mask more is a new object where the cells past the last object
-- are fresh. Assumes nothing.
use Prim.Native.Nat.{ℕ, zero, suc, ◌+◌, ◌≤◌, ◌<◌}
use native.Mathlib.Omega.{arith}
use native.Mathlib.Decide.{ℕ_discrete}
use mathlib.Core.Path.{◌≡◌, refl, sym, ap, ap₂, ◌∙◌, fun_ext}
use mathlib.Core.Bool.{Bool, true, false, cond}
use mathlib.Core.List.{List, [], ◌∷◌, ◌++◌}
use mathlib.Core.Option.{some, none}
use lib.Dec.{eqb}
use lib.ListN.{get_elem?}
use borrow.Author.Tests.{eq-eqb, ne_eqb}
use Rattle.plan_packed.specs.Format.{mask_bit, fields_from}
use Rattle.rules.specs.State.{Cell, Field, Object, fresh, fresh_fields, fresh_object, change_at, find_field, store_field, field_of, monitor_of}
use Rattle.machine.specs.Inner.Memory.{Memory, fields_at, object_at, objects_from, objects_of, store_cell, add_mask}

-- ---- the fields of an object

-- with field f's cell changed
abbrev update : (ℕ → Cell) → ℕ → Cell → ℕ → Cell
update k f c g = cond (eqb f g) c (k g)

-- the fields past f do not change
fields_past : (k : ℕ → Cell) (f : ℕ) (c : Cell) (m g n : ℕ) → f < g → fields_at (update k f c) (fields_from m g n) ≡ fields_at k (fields_from m g n)
unfolding fields_at fields_from
fields_past k f c m g zero h = refl
fields_past k f c m g (suc n) h = at (eqb (mask_bit m g) 1) (fields_past k f c m (suc g) n (omega arith))
  where
    at : (b : Bool) → fields_at (update k f c) (fields_from m (suc g) n) ≡ fields_at k (fields_from m (suc g) n)
        → fields_at (update k f c) (cond b (g ∷ fields_from m (suc g) n) (fields_from m (suc g) n)) ≡ fields_at k
        (cond b (g ∷ fields_from m (suc g) n) (fields_from m (suc g) n))
    at true q = rw (ne_eqb f g (λ e. omega arith), q)
    at false q = q

store_fields : (k : ℕ → Cell) (f : ℕ) (c : Cell) (m g n : ℕ) → store_field (fields_at k (fields_from m g n)) f c ≡ fields_at (update k f c) (fields_from m g n)
unfolding store_field fields_at fields_from
store_fields k f c m g zero = refl
store_fields k f c m g (suc n) = at (eqb (mask_bit m g) 1) (store_fields k f c m (suc g) n)
  where
    at : (b : Bool) → store_field (fields_at k (fields_from m (suc g) n)) f c ≡ fields_at (update k f c) (fields_from m (suc g) n)
        → store_field (fields_at k (cond b (g ∷ fields_from m (suc g) n) (fields_from m (suc g) n))) f c ≡ fields_at (update k f c)
        (cond b (g ∷ fields_from m (suc g) n) (fields_from m (suc g) n))
    at true q = by (ℕ_discrete g f)
      where
        by : Dec (g ≡ f) → cond (eqb g f) (record { name = f; cell = c } ∷ fields_at k (fields_from m (suc g) n))
            (record { name = g; cell = k g } ∷ store_field (fields_at k (fields_from m (suc g) n)) f c)
            ≡ record { name = g; cell = cond (eqb f g) c (k g) } ∷ fields_at (update k f c) (fields_from m (suc g) n)
        by (yes e) = rw (eq-eqb g f e, eq-eqb f g (sym e), fields_past k f c m (suc g) n (omega arith), e)
        by (no e) = rw (ne_eqb g f e, ne_eqb f g (λ q. e (sym q)), q)
    at false q = q

find_past : (k : ℕ → Cell) (f m g n : ℕ) → f < g → find_field (fields_at k (fields_from m g n)) f ≡ none
unfolding find_field fields_at fields_from
find_past k f m g zero h = refl
find_past k f m g (suc n) h = at (eqb (mask_bit m g) 1) (find_past k f m (suc g) n (omega arith))
  where
    at : (b : Bool) → find_field (fields_at k (fields_from m (suc g) n)) f ≡ none
        → find_field (fields_at k (cond b (g ∷ fields_from m (suc g) n) (fields_from m (suc g) n))) f ≡ none
    at true q = rw (ne_eqb g f (λ e. omega arith)) q
    at false q = q

-- a field is there if its bit is set
find_field_lem : (k : ℕ → Cell) (f m g n : ℕ) → g ≤ f → f < g + n → find_field (fields_at k (fields_from m g n)) f ≡ cond (eqb (mask_bit m f) 1) (some (k f)) none
unfolding find_field fields_at fields_from
find_field_lem k f m g zero p q = absurd (omega arith)
find_field_lem k f m g (suc n) p q = by (ℕ_discrete g f) (find_field_lem k f m (suc g) n)
  where
    here : (b : Bool) → find_field (fields_at k (cond b (f ∷ fields_from m (suc f) n) (fields_from m (suc f) n))) f ≡ cond b (some (k f)) none
    here true = rw (eq-eqb f f refl)
    here false = find_past k f m (suc f) n (omega arith)

    past : (g f : ℕ) (b : Bool) → (g ≡ f → ⊥)
        → find_field (fields_at k (cond b (g ∷ fields_from m (suc g) n) (fields_from m (suc g) n))) f ≡ find_field (fields_at k (fields_from m (suc g) n)) f
    past g f true e = rw (ne_eqb g f e)
    past g f false e = refl

    by : Dec (g ≡ f) → (suc g ≤ f → f < suc g + n → find_field (fields_at k (fields_from m (suc g) n)) f ≡ cond (eqb (mask_bit m f) 1) (some (k f)) none)
        → find_field (fields_at k (cond (eqb (mask_bit m g) 1) (g ∷ fields_from m (suc g) n) (fields_from m (suc g) n))) f ≡ cond (eqb (mask_bit m f) 1)
        (some (k f)) none
    by (yes e) r = rw e (here (eqb (mask_bit m f) 1))
    by (no e) r = past g f (eqb (mask_bit m g) 1) e ∙ r (omega (arith, e)) (omega arith)

new_fields : (k : ℕ → Cell) (fs : List ℕ) → ((f : ℕ) → k f ≡ fresh) → fields_at k fs ≡ fresh_fields fs
unfolding fields_at fresh_fields
new_fields k [] h = refl
new_fields k (f ∷ fs) h = rw (h f, new_fields k fs h)

-- ---- an object

-- the cells of an object after a store
cells_same : (M : Memory) (o f : ℕ) (c : Cell) → (store_cell M o f c).cells o ≡ update (M.cells o) f c
unfolding store_cell
cells_same M o f c = fun_ext (λ g. rw (eq-eqb o o refl))

cells_other : (M : Memory) (o f : ℕ) (c : Cell) (a : ℕ) → (o ≡ a → ⊥) → (store_cell M o f c).cells a ≡ M.cells a
unfolding store_cell
cells_other M o f c a n = fun_ext (λ g. rw (ne_eqb o a n))

object_with_lem : ℕ → (ℕ → Cell) → Object
object_with_lem m k = record { monitor = k 0; fields = fields_at k (fields_from m 1 31) }

object_other : (M : Memory) (o f : ℕ) (c : Cell) (a : ℕ) → (o ≡ a → ⊥) → object_at (store_cell M o f c) a ≡ object_at M a
unfolding object_at object_with_lem store_cell
object_other M o f c a n = ap (object_with_lem (M.mask a)) (cells_other M o f c a n)

object_store : (M : Memory) (o f : ℕ) (c : Cell) → 0 < f
    → object_at (store_cell M o f c) o ≡ record { monitor = (object_at M o).monitor; fields = store_field (object_at M o).fields f c }
unfolding object_at object_with_lem store_cell
object_store M o f c h =
    ap (object_with_lem (M.mask o)) (cells_same M o f c)
    ∙ ap₂ (λ (x : Cell) (l : List Field). record { monitor = x; fields = l }) (rw (ne_eqb f 0 (λ e. omega arith)))
    (sym (store_fields (M.cells o) f c (M.mask o) 1 31))

object_monitor : (M : Memory) (o : ℕ) (c : Cell) → object_at (store_cell M o 0 c) o ≡ record { monitor = c; fields = (object_at M o).fields }
unfolding object_at object_with_lem store_cell
object_monitor M o c =
    ap (object_with_lem (M.mask o)) (cells_same M o 0 c)
    ∙ ap (λ (l : List Field). record { monitor = c; fields = l }) (fields_past (M.cells o) 0 c (M.mask o) 1 31 (omega arith))

-- ---- the objects

objects_before : (M : Memory) (o f : ℕ) (c : Cell) (i n : ℕ) → o < i → objects_from (store_cell M o f c) i n ≡ objects_from M i n
unfolding objects_from
objects_before M o f c i zero h = refl
objects_before M o f c i (suc n) h = rw (object_other M o f c i (λ e. omega arith), objects_before M o f c (suc i) n (omega arith))

-- a store changes one object
objects_change : (M : Memory) (o f : ℕ) (c : Cell) (k : Object → Object) → object_at (store_cell M o f c) o ≡ k (object_at M o) → (i j n : ℕ) → o ≡ i + j
    → objects_from (store_cell M o f c) i n ≡ change_at (objects_from M i n) j k
unfolding objects_from change_at
objects_change M o f c k h i j zero e = refl
objects_change M o f c k h i zero (suc n) e =
    let q : o ≡ i = omega arith in
    ap₂ (λ (x : Object) (l : List Object). x ∷ l) (rw (← q) h) (objects_before M o f c (suc i) n (omega arith))
objects_change M o f c k h i (suc j) (suc n) e =
    ap₂ (λ (x : Object) (l : List Object). x ∷ l) (object_other M o f c i (λ q. omega arith)) (objects_change M o f c k h (suc i) j n (omega arith))

-- μ[(o, f) ↦ c]
pub store_of : (M : Memory) (o f : ℕ) (c : Cell) → 0 < f
    → objects_of (store_cell M o f c) ≡ change_at (objects_of M) o (λ x. record { monitor = x.monitor; fields = store_field x.fields f c })
unfolding objects_of store_cell
store_of M o f c h = objects_change M o f c _ (object_store M o f c h) 0 o M.count (omega arith)

-- μ[(o, Lock) ↦ c]
pub store_monitor_of : (M : Memory) (o : ℕ) (c : Cell)
    → objects_of (store_cell M o 0 c) ≡ change_at (objects_of M) o (λ x. record { monitor = c; fields = x.fields })
unfolding objects_of store_cell
store_monitor_of M o c = objects_change M o 0 c _ (object_monitor M o c) 0 o M.count (omega arith)

objects_get : (M : Memory) (i n j : ℕ) → j < n → get_elem? (objects_from M i n) j ≡ some (object_at M (i + j))
unfolding objects_from
objects_get M i zero j h = absurd (omega arith)
objects_get M i (suc n) zero h = let e : i + 0 ≡ i = omega arith in rw e
objects_get M i (suc n) (suc j) h =
    let e : suc i + j ≡ i + suc j = omega arith in
    objects_get M (suc i) n j (omega arith) ∙ ap (λ (a : ℕ). some (object_at M a)) e

object_of_lem : (M : Memory) (o : ℕ) → o < M.count → get_elem? (objects_of M) o ≡ some (object_at M o)
unfolding objects_of
object_of_lem M o h = let e : 0 + o ≡ o = omega arith in objects_get M 0 M.count o h ∙ ap (λ (a : ℕ). some (object_at M a)) e

-- μ(o, f)
pub lookup_of : (M : Memory) (o f : ℕ) → o < M.count → 0 < f → f < 32
    → field_of (get_elem? (objects_of M) o) f ≡ cond (eqb (mask_bit (M.mask o) f) 1) (some (M.cells o f)) none
unfolding field_of object_at
lookup_of M o f h p q = rw (object_of_lem M o h) (find_field_lem (M.cells o) f (M.mask o) 1 31 p (omega arith))

-- μ(o, Lock)
pub monitor_of_lem : (M : Memory) (o : ℕ) → o < M.count → monitor_of (get_elem? (objects_of M) o) ≡ some (M.cells o 0)
unfolding monitor_of object_at
monitor_of_lem M o h = rw (object_of_lem M o h)

-- ---- a new object

-- no cell past the last object has been stored to
abbrev pub FreshPast : Memory → Type 0
FreshPast M = (a f : ℕ) → M.count ≤ a → M.cells a f ≡ fresh

mask_other : (M : Memory) (m a : ℕ) → (M.count ≡ a → ⊥) → (add_mask M m).mask a ≡ M.mask a
unfolding add_mask
mask_other M m a n = rw (ne_eqb M.count a n)

mask_same : (M : Memory) (m : ℕ) → (add_mask M m).mask M.count ≡ m
unfolding add_mask
mask_same M m = rw (eq-eqb M.count M.count refl)

add_other : (M : Memory) (m a : ℕ) → (M.count ≡ a → ⊥) → object_at (add_mask M m) a ≡ object_at M a
unfolding object_at object_with_lem add_mask
add_other M m a n = ap (λ (k : ℕ). object_with_lem k (M.cells a)) (mask_other M m a n)

add_before : (M : Memory) (m i n : ℕ) → i + n ≤ M.count → objects_from (add_mask M m) i n ≡ objects_from M i n
unfolding objects_from
add_before M m i zero h = refl
add_before M m i (suc n) h =
    ap₂ (λ (x : Object) (l : List Object). x ∷ l) (add_other M m i (λ e. omega arith)) (add_before M m (suc i) n (omega arith))

objects_last : (M : Memory) (i n : ℕ) → objects_from M i (suc n) ≡ objects_from M i n ++ (object_at M (i + n) ∷ [])
unfolding objects_from
objects_last M i zero = let e : i + 0 ≡ i = omega arith in rw e
objects_last M i (suc n) = let e : i + suc n ≡ suc i + n = omega arith in rw e (ap (λ (l : List Object). object_at M i ∷ l) (objects_last M (suc i) n))

-- "A `new` names [..] never field 0"
one_up : (m n : ℕ) → eqb (mask_bit m 0) 1 ≡ false → fields_from m 0 (suc n) ≡ fields_from m 1 n
unfolding fields_from
one_up m n h = ap (λ (b : Bool). cond b (0 ∷ fields_from m 1 n) (fields_from m 1 n)) h

fresh_with : (M : Memory) (m : ℕ) → FreshPast M → object_with_lem m (M.cells M.count) ≡ fresh_object (fields_from m 1 31)
unfolding object_with_lem fresh_object
fresh_with M m p =
    ap₂ (λ (x : Cell) (l : List Field). record { monitor = x; fields = l }) (p M.count 0 (omega arith))
    (new_fields (M.cells M.count) (fields_from m 1 31) (λ f. p M.count f (omega arith)))

new_object : (M : Memory) (m : ℕ) → FreshPast M → eqb (mask_bit m 0) 1 ≡ false → object_at (add_mask M m) M.count ≡ fresh_object (fields_from m 0 32)
unfolding object_at object_with_lem add_mask
new_object M m p h =
    ap (λ (k : ℕ). object_with_lem k (M.cells M.count)) (mask_same M m) ∙ fresh_with M m p ∙ ap fresh_object (sym (one_up m 31 h))

pub add_of : (M : Memory) (m : ℕ) → FreshPast M → eqb (mask_bit m 0) 1 ≡ false → objects_of (add_mask M m) ≡ objects_of M ++ (fresh_object (fields_from m 0 32) ∷ [])
unfolding objects_of add_mask
add_of M m p h =
    let e : 0 + M.count ≡ M.count = omega arith in
    objects_last (add_mask M m) 0 M.count
    ∙ ap₂ (λ (l : List Object) (x : Object). l ++ (x ∷ [])) (add_before M m 0 M.count (omega arith)) (ap (object_at (add_mask M m)) e ∙ new_object M m p h)
