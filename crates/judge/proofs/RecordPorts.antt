-- The ports that a record feeds and draws from, by the number of its kind. Assumes nothing.
use Prim.Native.Nat.{ℕ, ◌+◌, ◌*◌, ◌%◌, ◌<◌, ◌≤◌}
use mathlib.Core.Path.{◌≡◌, refl, sym, ap, subst, ◌∙◌}
use mathlib.Core.Bool.{true, false, true≢false}
use mathlib.Core.List.{List}
use mathlib.Core.Logic.{◌⊎◌, inl, inr}
use mathlib.Core.Option.{Option, some, none}
use lib.Dec.{T, eqb}
use lib.ListN.{get_or}
use Rattle.format.specs.Version.{Version, v0, v1}
use Rattle.log_records.specs.Record.{Kind, new, read, write, readv, writev, acquire, release, fork, join, lacks_read, lacks_write, Record, entry, is_plain}
use Rattle.log_records.specs.Packed.{kind_of}
use Rattle.log_records.proofs.KindNumbers.{by_kind}
use Rattle.log_order.specs.Accesses.{is_write}
use Rattle.log_order.proofs.Ports.{Port, of_thread, of_monitor, of_volatile, of_accesses, of_writes, Feeds}
use Rattle.log_conflicts.proofs.Clock.{second, second_port}
use Rattle.log_rows.specs.Inner.Rows.{place_row, is_access, ordering_kind, passes}
use Rattle.judge.proofs.PlaceNumbers.{Placed}
use Rattle.judge.proofs.PortRows.{row_of, Valid, HasRow}

-- a record as refusal 12 leaves it
pub record Fits (r : Record) : Type 0 where
  pub thread_fits : r.thread < 8
  pub object_fits : r.object < 32
  pub field_fits : r.field < 32
  pub fork_fits : r.kind ≡ fork → r.field < 8
  pub join_fits : r.kind ≡ join → r.field < 8
  pub acquire_fits : r.kind ≡ acquire → r.field ≡ 0
  pub release_fits : r.kind ≡ release → r.field ≡ 0
  pub readv_fits : r.kind ≡ readv → 0 < r.field
  pub writev_fits : r.kind ≡ writev → 0 < r.field

-- ---- what is fed

-- the port that a record feeds besides its thread's
abbrev pub fed_port : Version → Kind → ℕ → ℕ → Option Port
fed_port v new o f = none
fed_port v read o f = some (of_accesses o f)
fed_port v write o f = some (of_accesses o f)
fed_port v0 readv o f = none
fed_port v1 readv o f = none
fed_port v0 writev o f = none
fed_port v1 writev o f = some (of_volatile o f)
fed_port v acquire o f = none
fed_port v release o f = some (of_monitor o)
fed_port v fork o f = some (of_thread f)
fed_port v join o f = none
fed_port v lacks_read o f = some (of_accesses o f)
fed_port v lacks_write o f = some (of_accesses o f)

-- what such a port is
abbrev Fed : Version → Record → Option Port → Type 0
Fed v r none = Unit {0}
Fed v r (some p) = Feeds v r p

fed_by_lem : (v : Version) (κ : Kind) (t o f x : ℕ) → Fed v (entry κ t o f x) (fed_port v κ o f)
fed_by_lem v new t o f x = tt
fed_by_lem v read t o f x = (tt, refl, refl)
fed_by_lem v write t o f x = (tt, refl, refl)
fed_by_lem v0 readv t o f x = tt
fed_by_lem v1 readv t o f x = tt
fed_by_lem v0 writev t o f x = tt
fed_by_lem v1 writev t o f x = (refl, refl, refl, refl)
fed_by_lem v acquire t o f x = tt
fed_by_lem v release t o f x = (refl, refl)
fed_by_lem v fork t o f x = inr (refl, refl)
fed_by_lem v join t o f x = tt
fed_by_lem v lacks_read t o f x = (tt, refl, refl)
fed_by_lem v lacks_write t o f x = (tt, refl, refl)

pub fed_feeds : (v : Version) (r : Record) (p : Port) → fed_port v r.kind r.object r.field ≡ some p → Feeds v r p
fed_feeds v r p e = subst (λ (m : Option Port). Fed v r m) e (fed_by_lem v r.kind r.thread r.object r.field r.value)

pub accesses_fed : (κ : Kind) (v : Version) (o f : ℕ) → T (is_plain κ) → fed_port v κ o f ≡ some (of_accesses o f)
accesses_fed new v o f h = absurd h
accesses_fed read v o f h = refl
accesses_fed write v o f h = refl
accesses_fed readv v o f h = absurd h
accesses_fed writev v o f h = absurd h
accesses_fed acquire v o f h = absurd h
accesses_fed release v o f h = absurd h
accesses_fed fork v o f h = absurd h
accesses_fed join v o f h = absurd h
accesses_fed lacks_read v o f h = refl
accesses_fed lacks_write v o f h = refl

-- besides the thread's port and that of a write no other is fed
pub fed_one_of : (v : Version) (r : Record) (p : Port) → Feeds v r p
    → (p ≡ of_thread r.thread) ⊎ (fed_port v r.kind r.object r.field ≡ some p) ⊎ (T (is_write r.kind) × (p ≡ of_writes r.object r.field))
fed_one_of v r (of_thread q) (inl e) = inl (ap of_thread (sym e))
fed_one_of v r (of_thread q) (inr (e, g)) = inr (inl (rw (e, g)))
fed_one_of v r (of_monitor o) (e, g) = inr (inl (rw (e, g)))
fed_one_of v r (of_volatile o f) (c, e, g, h) = inr (inl (rw (c, e, g, h)))
fed_one_of v r (of_accesses o f) (k, e, g) = inr (inl (rw (accesses_fed r.kind v r.object r.field k, e, g)))
fed_one_of v r (of_writes o f) (k, e, g) = inr (inr (k, rw (e, g)))

-- a plain access draws from its thread's port alone
pub plain_second : (v : Version) (κ : Kind) (o f : ℕ) → T (is_plain κ) → second_port v κ o f ≡ none
plain_second v new o f h = absurd h
plain_second v read o f h = refl
plain_second v write o f h = refl
plain_second v readv o f h = absurd h
plain_second v writev o f h = absurd h
plain_second v acquire o f h = absurd h
plain_second v release o f h = absurd h
plain_second v fork o f h = absurd h
plain_second v join o f h = absurd h
plain_second v lacks_read o f h = refl
plain_second v lacks_write o f h = refl

-- ---- what a record does, by the number of its kind

-- the port of a place that what is told of goes through: its monitor's, or its volatile field's
pub data AtPlace (o f : ℕ) : Port → Type 0 where
  monitor : f ≡ 0 → AtPlace o f (of_monitor o)
  volatile : 0 < f → AtPlace o f (of_volatile o f)

-- the record is no plain access; the ports that it feeds and draws from besides its thread's
pub record Moves (v : Version) (r : Record) (fed drawn : Option Port) : Type 0 where
  pub fed_is : fed_port v r.kind r.object r.field ≡ fed
  pub drawn_is : second v r ≡ drawn
  pub no_access : is_plain r.kind ≡ false
  pub no_write : is_write r.kind ≡ false

-- through its place
pub record Hearing (v : Version) (r : Record) : Type 0 where
  pub port : Port
  pub at_place : AtPlace r.object r.field port
  pub moves : Moves v r none (some port)

pub record Telling (v : Version) (r : Record) : Type 0 where
  pub port : Port
  pub at_place : AtPlace r.object r.field port
  pub moves : Moves v r (some port) none

moves : {v : Version} {κ : Kind} {t o f x : ℕ} {fed drawn : Option Port} → fed_port v κ o f ≡ fed → second_port v κ o f ≡ drawn → is_plain κ ≡ false → is_write κ
    ≡ false
    → Moves v (entry κ t o f x) fed drawn
moves a b c d = record { fed_is = a; drawn_is = b; no_access = c; no_write = d }

module _ (t o f x : ℕ) where
  abbrev Hears : Version → ℕ → Type 0
  Hears v k = Fits (entry (kind_of k) t o f x) → passes 6 (ordering_kind v 4) k ≡ true → Hearing v (entry (kind_of k) t o f x)

  hears_by : (v : Version) (k : ℕ) → 0 < k → k ≤ 11 → Hears v k
  unfolding kind_of
  hears_by v0 = by_kind (Hears v0) (λ w h. no h) (λ w h. no h) (λ w h. no h) (λ w h. no h) (λ w h. no h)
      (λ w h. record { port = of_monitor o; at_place = monitor (w.acquire_fits refl); moves = moves refl refl refl refl }) (λ w h. no h) (λ w h. no h)
      (λ w h. no h) (λ w h. no h) (λ w h. no h)
    where
      no : {A : Type 0} → false ≡ true → A
      no e = absurd (true≢false (sym e))
  hears_by v1 = by_kind (Hears v1) (λ w h. no h) (λ w h. no h) (λ w h. no h)
      (λ w h. record { port = of_volatile o f; at_place = volatile (w.readv_fits refl); moves = moves refl refl refl refl }) (λ w h. no h)
      (λ w h. record { port = of_monitor o; at_place = monitor (w.acquire_fits refl); moves = moves refl refl refl refl }) (λ w h. no h) (λ w h. no h)
      (λ w h. no h) (λ w h. no h) (λ w h. no h)
    where
      no : {A : Type 0} → false ≡ true → A
      no e = absurd (true≢false (sym e))

  abbrev Tells : Version → ℕ → Type 0
  Tells v k = Fits (entry (kind_of k) t o f x) → passes 7 (ordering_kind v 5) k ≡ true → Telling v (entry (kind_of k) t o f x)

  tells_by : (v : Version) (k : ℕ) → 0 < k → k ≤ 11 → Tells v k
  unfolding kind_of
  tells_by v0 = by_kind (Tells v0) (λ w h. no h) (λ w h. no h) (λ w h. no h) (λ w h. no h) (λ w h. no h) (λ w h. no h)
      (λ w h. record { port = of_monitor o; at_place = monitor (w.release_fits refl); moves = moves refl refl refl refl }) (λ w h. no h) (λ w h. no h)
      (λ w h. no h) (λ w h. no h)
    where
      no : {A : Type 0} → false ≡ true → A
      no e = absurd (true≢false (sym e))
  tells_by v1 = by_kind (Tells v1) (λ w h. no h) (λ w h. no h) (λ w h. no h) (λ w h. no h)
      (λ w h. record { port = of_volatile o f; at_place = volatile (w.writev_fits refl); moves = moves refl refl refl refl }) (λ w h. no h)
      (λ w h. record { port = of_monitor o; at_place = monitor (w.release_fits refl); moves = moves refl refl refl refl }) (λ w h. no h) (λ w h. no h)
      (λ w h. no h) (λ w h. no h)
    where
      no : {A : Type 0} → false ≡ true → A
      no e = absurd (true≢false (sym e))

  abbrev Rests : Version → ℕ → Type 0
  Rests v k = is_access k ≡ false → passes 6 (ordering_kind v 4) k ≡ false → passes 7 (ordering_kind v 5) k ≡ false → (k ≡ 8 → ⊥) → (k ≡ 9 → ⊥)
      → Moves v (entry (kind_of k) t o f x) none none

  rests_by : (v : Version) (k : ℕ) → 0 < k → k ≤ 11 → Rests v k
  unfolding kind_of
  rests_by v0 = by_kind (Rests v0) (λ a h g m n. moves refl refl refl refl) (λ a h g m n. absurd (true≢false a)) (λ a h g m n. absurd (true≢false a))
      (λ a h g m n. moves refl refl refl refl) (λ a h g m n. moves refl refl refl refl) (λ a h g m n. absurd (true≢false h))
      (λ a h g m n. absurd (true≢false g))
      (λ a h g m n. absurd (m refl)) (λ a h g m n. absurd (n refl)) (λ a h g m n. absurd (true≢false a)) (λ a h g m n. absurd (true≢false a))
  rests_by v1 = by_kind (Rests v1) (λ a h g m n. moves refl refl refl refl) (λ a h g m n. absurd (true≢false a)) (λ a h g m n. absurd (true≢false a))
      (λ a h g m n. absurd (true≢false h)) (λ a h g m n. absurd (true≢false g)) (λ a h g m n. absurd (true≢false h)) (λ a h g m n. absurd (true≢false g))
      (λ a h g m n. absurd (m refl)) (λ a h g m n. absurd (n refl)) (λ a h g m n. absurd (true≢false a)) (λ a h g m n. absurd (true≢false a))

module _ (v : Version) (r : Record) (k : ℕ) (least : 0 < k) (most : k ≤ 11) (kind_is : r.kind ≡ kind_of k) (fits : Fits r) where
  -- what holds of a record of the kind with this number holds of r
  of_kind : (A : Record → Type 0) → A (entry (kind_of k) r.thread r.object r.field r.value) → A r
  of_kind A a = subst (λ (κ : Kind). A (entry κ r.thread r.object r.field r.value)) (sym kind_is) a

  fits_too : Fits (entry (kind_of k) r.thread r.object r.field r.value)
  fits_too = subst (λ (κ : Kind). Fits (entry κ r.thread r.object r.field r.value)) kind_is fits

  pub hearing : passes 6 (ordering_kind v 4) k ≡ true → Hearing v r
  hearing h = of_kind (Hearing v) (hears_by r.thread r.object r.field r.value v k least most fits_too h)

  pub telling : passes 7 (ordering_kind v 5) k ≡ true → Telling v r
  telling h = of_kind (Telling v) (tells_by r.thread r.object r.field r.value v k least most fits_too h)

  pub resting : is_access k ≡ false → passes 6 (ordering_kind v 4) k ≡ false → passes 7 (ordering_kind v 5) k ≡ false → (k ≡ 8 → ⊥) → (k ≡ 9 → ⊥)
      → Moves v r none none
  resting a h g m n = of_kind (λ (s : Record). Moves v s none none) (rests_by r.thread r.object r.field r.value v k least most a h g m n)

  pub is_fork_lem : k ≡ 8 → r.kind ≡ fork
  unfolding kind_of
  is_fork_lem e = kind_is ∙ ap kind_of e

  pub is_join : k ≡ 9 → r.kind ≡ join
  unfolding kind_of
  is_join e = kind_is ∙ ap kind_of e

  pub forking : k ≡ 8 → Moves v r (some (of_thread r.field)) none
  forking e = subst (λ (κ : Kind). Moves v (entry κ r.thread r.object r.field r.value) (some (of_thread r.field)) none) (sym (is_fork_lem e))
      (moves refl refl refl refl)

  pub joining : k ≡ 9 → Moves v r none (some (of_thread r.field))
  joining e = subst (λ (κ : Kind). Moves v (entry κ r.thread r.object r.field r.value) none (some (of_thread r.field))) (sym (is_join e))
      (moves refl refl refl refl)

pub access_plain : (k : ℕ) → 0 < k → k ≤ 11 → is_access k ≡ is_plain (kind_of k)
unfolding kind_of
access_plain = by_kind (λ k. is_access k ≡ is_plain (kind_of k)) refl refl refl refl refl refl refl refl refl refl refl

pub write_kind : (k : ℕ) → 0 < k → k ≤ 11 → eqb (k % 8) 3 ≡ is_write (kind_of k)
unfolding kind_of
write_kind = by_kind (λ k. eqb (k % 8) 3 ≡ is_write (kind_of k)) refl refl refl refl refl refl refl refl refl refl refl

-- ---- the rows of a place

module _ {N : List ℕ} {given n : ℕ} (o f : ℕ) (P : Placed N given (o * 32 + f) n) where
  pub numbered : 0 < get_or N (o * 32 + f) 0
  numbered = subst (λ (m : ℕ). 0 < m) (sym P.number) P.some

  pub place_row_lem : (p : Port) → AtPlace o f p → row_of N p ≡ place_row n
  place_row_lem (of_monitor o') (monitor h) = ap place_row (ap (λ (m : ℕ). get_or N (o * 32 + m) 0) (sym h) ∙ P.number)
  place_row_lem (of_volatile o' f') (volatile h) = ap place_row P.number
  place_row_lem (of_thread _) h = elim h [ ]
  place_row_lem (of_accesses _ _) h = elim h [ ]
  place_row_lem (of_writes _ _) h = elim h [ ]

  pub place_valid : o < 32 → f < 32 → (p : Port) → AtPlace o f p → Valid p
  place_valid a b (of_monitor o') (monitor h) = a
  place_valid a b (of_volatile o' f') (volatile h) = (a, b, h)
  place_valid a b (of_thread _) h = elim h [ ]
  place_valid a b (of_accesses _ _) h = elim h [ ]
  place_valid a b (of_writes _ _) h = elim h [ ]

  pub place_has : (p : Port) → AtPlace o f p → HasRow N p
  place_has (of_monitor o') (monitor h) = subst (λ (m : ℕ). 0 < get_or N (o * 32 + m) 0) h numbered
  place_has (of_volatile o' f') (volatile h) = numbered
  place_has (of_thread _) h = elim h [ ]
  place_has (of_accesses _ _) h = elim h [ ]
  place_has (of_writes _ _) h = elim h [ ]
