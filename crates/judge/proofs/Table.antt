-- The table of rows shows the clocks of every port; what a record does to it shows those of the log with that record. Assumes nothing.
use Prim.Native.Nat.{ℕ, suc, ◌+◌, ◌*◌, ◌<◌, ◌≤◌, max, min}
use native.Mathlib.Omega.{arith}
use native.Mathlib.Decide.{ℕ_discrete}
use mathlib.Core.Path.{◌≡◌, refl, sym, ap, subst, ◌∙◌}
use mathlib.Core.Bool.{Bool, true, false, cond, true≢false}
use mathlib.Core.List.{List, ◌∷◌}
use mathlib.Core.Logic.{◌⊎◌, inl, inr}
use mathlib.Core.Option.{some, none}
use lib.Dec.{T, eqb}
use lib.ListN.{length, get_or, set}
use Rattle.std.proofs.Common.{Ok}
use Rattle.format.specs.Version.{Version}
use Rattle.log_records.specs.Record.{Record, is_plain}
use Rattle.log_order.specs.Accesses.{is_write}
use Rattle.log_order.proofs.Ports.{Port, of_thread, of_monitor, of_volatile, of_accesses, of_writes, Feeds, Draws}
use Rattle.log_conflicts.proofs.Clock.{second, feeds, feeds→, feeds←, draws→, second_draws}
use Rattle.log_conflicts.proofs.Conflicts.{Eight}
use Rattle.log_conflicts.proofs.RowClocks.{Heard, Kept, heard_same, kept_same, heard_unfed, kept_unfed, heard_told, kept_fed}
use Rattle.log_clocks.specs.Inner.Rows.{Row, clock_of}
use Rattle.log_places.specs.Inner.Places.{Numbered, known, next}
use Rattle.log_rows.specs.Inner.Rows.{place_row}
use Rattle.log_row_stores.specs.Inner.Table.{clock_at, Stored, Keeps, Hears, Told}
use Rattle.judge.proofs.PlaceNumbers.{Places, numbered_own, numbered_other}
use Rattle.judge.proofs.PortRows.{row_of, Valid, HasRow, row_once}
use Rattle.judge.proofs.RecordPorts.{fed_port, fed_feeds, fed_one_of, accesses_fed, plain_second, Moves}

-- what the clocks of a port are
abbrev pub Shown : Version → List Record → Port → (ℕ → ℕ) → Type 0
Shown v H (of_thread q) c = Heard v H (of_thread q) c
Shown v H (of_monitor o) c = Heard v H (of_monitor o) c
Shown v H (of_volatile o f) c = Heard v H (of_volatile o f) c
Shown v H (of_accesses o f) c = Kept v H (of_accesses o f) c
Shown v H (of_writes o f) c = Kept v H (of_writes o f) c

-- a port that what reaches it is drawn from
abbrev pub Passing : Port → Type 0
Passing (of_thread q) = Unit {0}
Passing (of_monitor o) = Unit {0}
Passing (of_volatile o f) = Unit {0}
Passing (of_accesses o f) = ⊥
Passing (of_writes o f) = ⊥

shown_heard : {v : Version} {H : List Record} {c : ℕ → ℕ} (p : Port) → Passing p → Shown v H p c → Heard v H p c
shown_heard (of_thread q) k S = S
shown_heard (of_monitor o) k S = S
shown_heard (of_volatile o f) k S = S
shown_heard (of_accesses o f) k S = absurd k
shown_heard (of_writes o f) k S = absurd k

heard_shown : {v : Version} {H : List Record} {c : ℕ → ℕ} (p : Port) → Passing p → Heard v H p c → Shown v H p c
heard_shown (of_thread q) k S = S
heard_shown (of_monitor o) k S = S
heard_shown (of_volatile o f) k S = S
heard_shown (of_accesses o f) k S = absurd k
heard_shown (of_writes o f) k S = absurd k

-- the clocks of a port's row
abbrev pub clocks : List ℕ → List Row → Port → ℕ → ℕ
clocks N rows p = clock_at rows (row_of N p)

unfoldable pub Shows : Version → List Record → List ℕ → List Row → Type 0
Shows v H N rows = (p : Port) → Valid p → Shown v H p (clocks N rows p)

-- the rows of a number that no place has are clear
unfoldable pub Blank : (given : ℕ) → List Row → Type 0
Blank given rows = (k q : ℕ) → place_row k ≤ q → q ≤ place_row k + 2 → (k ≡ 0) ⊎ (given < k) → (u : ℕ) → u < 8 → clock_at rows q u ≡ 0

-- a thread's port is that of one of eight
few : (p : Port) → Valid p → (t : ℕ) → p ≡ of_thread t → t < 8
few p w t e = subst Valid e w

module _ (v : Version) {H : List Record} (eight : Eight H) where
  -- clocks that are the same
  shown_same : (p : Port) → Valid p → (c d : ℕ → ℕ) → ((u : ℕ) → u < 8 → d u ≡ c u) → Shown v H p c → Shown v H p d
  shown_same (of_thread q) w c d e = heard_same eight c d e (few (of_thread q) w)
  shown_same (of_monitor o) w c d e = heard_same eight c d e (few (of_monitor o) w)
  shown_same (of_volatile o f) w c d e = heard_same eight c d e (few (of_volatile o f) w)
  shown_same (of_accesses o f) w c d e = kept_same eight c d e
  shown_same (of_writes o f) w c d e = kept_same eight c d e

-- a record that does not feed the port
shown_unfed : (v : Version) (r : Record) (H : List Record) → r.thread < 8 → (p : Port) (c : ℕ → ℕ) → (Feeds v r p → ⊥) → Shown v H p c → Shown v (r ∷ H) p c
shown_unfed v r H b (of_thread q) c n S = heard_unfed r H b n (λ e. n (subst (Feeds v r) (sym e) (inl refl))) S
shown_unfed v r H b (of_monitor o) c n S = heard_unfed r H b n (λ e. n (subst (Feeds v r) (sym e) (inl refl))) S
shown_unfed v r H b (of_volatile o f) c n S = heard_unfed r H b n (λ e. n (subst (Feeds v r) (sym e) (inl refl))) S
shown_unfed v r H b (of_accesses o f) c n S = kept_unfed r H b n S
shown_unfed v r H b (of_writes o f) c n S = kept_unfed r H b n S

-- ---- a place gets its number

module _ (v : Version) (H : List Record) (eight : Eight H) (N : List ℕ) (given p : ℕ) (P : Places N given) (below : p < 1024) (new : get_or N p 0 ≡ 0)
    (rows : List Row)
    (B : Blank given rows) (S : Shows v H N rows) where
  abbrev after : List ℕ
  after = set N p (given + 1)

  -- a row of a place shows what it has shown: that of a place without a number nothing, as the new one
  moved_place : (place : ℕ) (row : ℕ → ℕ) → ((k : ℕ) → (place_row k ≤ row k) × (row k ≤ place_row k + 2)) → (u : ℕ) → u < 8
      → clock_at rows (row (get_or after place 0)) u ≡ clock_at rows (row (get_or N place 0)) u
  unfolding Blank
  moved_place place row spot u h = go (ℕ_discrete place p)
    where
      go : Dec (place ≡ p) → clock_at rows (row (get_or after place 0)) u ≡ clock_at rows (row (get_or N place 0)) u
      go (no n) = ap (λ (k : ℕ). clock_at rows (row k) u) (numbered_other N given p P below new place n)
      go (yes q) =
          let now : get_or after place 0 ≡ given + 1 = ap (λ (k : ℕ). get_or after k 0) q ∙ numbered_own N given p P below new in
          let was : get_or N place 0 ≡ 0 = ap (λ (k : ℕ). get_or N k 0) q ∙ new in
          ap (λ (k : ℕ). clock_at rows (row k) u) now
          ∙ B (given + 1) (row (given + 1)) (spot (given + 1)).0 (spot (given + 1)).1 (inr (omega arith)) u h
          ∙ sym (B 0 (row 0) (spot 0).0 (spot 0).1 (inl refl) u h) ∙ ap (λ (k : ℕ). clock_at rows (row k) u) (sym was)

  row_moved : (q : Port) (u : ℕ) → u < 8 → clocks after rows q u ≡ clocks N rows q u
  row_moved (of_thread q) u h = refl
  row_moved (of_monitor o) u h = moved_place (o * 32 + 0) (λ k. place_row k) (λ k. (omega arith, omega arith)) u h
  row_moved (of_volatile o f) u h = moved_place (o * 32 + f) (λ k. place_row k) (λ k. (omega arith, omega arith)) u h
  row_moved (of_accesses o f) u h = moved_place (o * 32 + f) (λ k. place_row k + 1) (λ k. (omega arith, omega arith)) u h
  row_moved (of_writes o f) u h = moved_place (o * 32 + f) (λ k. place_row k + 2) (λ k. (omega arith, omega arith)) u h

  shows_numbered : Shows v H after rows
  unfolding Shows
  shows_numbered q w = shown_same v eight q w (clocks N rows q) (clocks after rows q) (row_moved q) (S q w)

-- the same, whether it had one or not
pub shows_placed : (v : Version) (H : List Record) → Eight H → {N : List ℕ} {given p : ℕ} {N' : List ℕ} {given' n most : ℕ} → Places N given → p < 1024
    → (rows : List Row) → Blank given rows → Shows v H N rows → Numbered N given p most N' given' (Ok n) → Shows v H N' rows
shows_placed v H ei P h rows B S (known k) = S
shows_placed v H ei {N = N} {given = given} {p = p} P h rows B S (next k l) = shows_numbered v H ei N given p P h k rows B S

pub blank_more : (given more : ℕ) (rows : List Row) → given ≤ more → Blank given rows → Blank more rows
unfolding Blank
blank_more given more rows h B k q a b d = B k q a b (which d)
  where
    which : (k ≡ 0) ⊎ (more < k) → (k ≡ 0) ⊎ (given < k)
    which (inl e) = inl e
    which (inr e) = inr (omega arith)

-- a store to the row of a thread, or of a place with a number, leaves the clear rows
pub blank_stored : (given q : ℕ) (rows after : List Row) → (q < 8) ⊎ ((n : ℕ) × ((0 < n) × (n ≤ given) × (place_row n ≤ q) × (q ≤ place_row n + 2))) → Stored q
    rows after
    → Blank given rows → Blank given after
unfolding Blank
blank_stored given q rows after spot T B k p a b d u h = ap (λ (x : Row). clock_of x u) (T.others p (λ e. away spot d e)) ∙ B k p a b d u h
  where
    away : (q < 8) ⊎ ((n : ℕ) × ((0 < n) × (n ≤ given) × (place_row n ≤ q) × (q ≤ place_row n + 2))) → (k ≡ 0) ⊎ (given < k) → p ≡ q → ⊥
    away (inl x) y e = omega arith
    away (inr (n, (x, y, z, w))) (inl g) e = omega arith
    away (inr (n, (x, y, z, w))) (inr g) e = omega arith

-- ---- one record

module _ (v : Version) (r : Record) (H : List Record) (N : List ℕ) (given : ℕ) (P : Places N given) (eight : Eight H) (thread_below : r.thread < 8)
    (short : length H < 4096) where
  abbrev own : Port
  own = of_thread r.thread

  -- a store to the row of the port p₀: another port's row is as it was
  elsewhere : (p₀ : Port) → Valid p₀ → HasRow N p₀ → (rows after : List Row) → Stored (row_of N p₀) rows after → (p : Port) → Valid p → (p ≡ p₀ → ⊥) → (u : ℕ)
      → clocks N after p u ≡ clocks N rows p u
  elsewhere p₀ w h rows after T p wp n u = ap (λ (x : Row). clock_of x u) (T.others (row_of N p) (λ e. n (row_once N given P p p₀ wp w h e)))

  -- a port is p₀ or it is not
  which : (p₀ p : Port) → Valid p₀ → HasRow N p₀ → Valid p → (p ≡ p₀) ⊎ (p ≡ p₀ → ⊥)
  which p₀ p w h wp = go (ℕ_discrete (row_of N p) (row_of N p₀))
    where
      go : Dec (row_of N p ≡ row_of N p₀) → (p ≡ p₀) ⊎ (p ≡ p₀ → ⊥)
      go (yes e) = inl (row_once N given P p p₀ wp w h e)
      go (no n) = inr (λ e. n (ap (row_of N) e))

  -- a record that draws from its own thread alone leaves that thread's clocks
  own_still : {c : ℕ → ℕ} → second v r ≡ none → Heard v H own c → Heard v (r ∷ H) own c
  own_still {c} e S =
      heard_told r H thread_below (inl refl) {s = own} (inl refl) (λ q d. alone q (draws→ v r q d)) short c eight (inl refl) (λ u h. omega arith)
      (few own thread_below) S S
    where
      alone : (q : Port) → (own ≡ q) ⊎ (second v r ≡ some q) → (q ≡ own) ⊎ (q ≡ own)
      alone q (inl g) = inl (sym g)
      alone q (inr g) = let z : none ≡ some q = sym e ∙ g in absurd (true≢false cc)

  -- nothing but the record's thread is fed
  only_own : fed_port v r.kind r.object r.field ≡ none → is_write r.kind ≡ false → (p : Port) → Feeds v r p → p ≡ own
  only_own f w p o = go (fed_one_of v r p o)
    where
      go : (p ≡ own) ⊎ (fed_port v r.kind r.object r.field ≡ some p) ⊎ (T (is_write r.kind) × (p ≡ of_writes r.object r.field)) → p ≡ own
      go (inl e) = e
      go (inr (inl e)) = let z : none ≡ some p = sym f ∙ e in absurd (true≢false cc)
      go (inr (inr (a, e))) = absurd (subst T w a)

  module _ (rows : List Row) (S : Shows v H N rows) where
    -- by a record that does nothing
    pub shows_rests : Moves v r none none → Shows v (r ∷ H) N rows
    unfolding Shows
    shows_rests M p w = by (feeds v r p) refl
      where
        by : (d : Bool) → feeds v r p ≡ d → Shown v (r ∷ H) p (clocks N rows p)
        by true e =
            subst (λ (q : Port). Shown v (r ∷ H) q (clocks N rows q)) (sym (only_own M.fed_is M.no_write p (feeds→ v r p (rw e tt))))
            (own_still M.drawn_is (S own thread_below))
        by false e = shown_unfed v r H thread_below p (clocks N rows p) (λ o. subst T e (feeds← v r p o)) (S p w)

    -- ---- the row of the port p₀ is told what that of the port s knows

    module _ (p₀ s : Port) (valid : Valid p₀) (has : HasRow N p₀) (valid-s : Valid s) (passing : Passing p₀) (passing-s : Passing s) (feeds-p : Feeds v r p₀)
        (draws-s : Draws v r s) (only : (q : Port) → Draws v r q → (q ≡ p₀) ⊎ (q ≡ s)) (itself : (p₀ ≡ own) ⊎ (s ≡ own))
        (rest : (p : Port) → Feeds v r p → (p ≡ p₀ → ⊥) → (p ≡ own) × (second v r ≡ none)) (after : List Row)
        (told : Told (row_of N p₀) (row_of N s) (suc (length H)) rows after) where
      shows_told : Shows v (r ∷ H) N after
      unfolding Shows
      shows_told p w = go (which p₀ p valid has w)
        where
          other : (p ≡ p₀ → ⊥) → Shown v (r ∷ H) p (clocks N after p)
          other n = by (feeds v r p) refl
            where
              still : Shown v H p (clocks N after p)
              still = shown_same v eight p w (clocks N rows p) (clocks N after p) (λ u h. elsewhere p₀ valid has rows after told.stored p w n u) (S p w)

              by : (d : Bool) → feeds v r p ≡ d → Shown v (r ∷ H) p (clocks N after p)
              by true e =
                  let d = rest p (feeds→ v r p (rw e tt)) n in
                  subst (λ (q : Port). Shown v (r ∷ H) q (clocks N after q)) (sym d.0)
                  (own_still d.1 (subst (λ (q : Port). Shown v H q (clocks N after q)) d.0 still))
              by false e = shown_unfed v r H thread_below p (clocks N after p) (λ o. subst T e (feeds← v r p o)) still

          go : (p ≡ p₀) ⊎ (p ≡ p₀ → ⊥) → Shown v (r ∷ H) p (clocks N after p)
          go (inl e) =
              subst (λ (q : Port). Shown v (r ∷ H) q (clocks N after q)) (sym e)
              (heard_shown p₀ passing
              (heard_told r H thread_below feeds-p draws-s only short (clocks N after p₀) eight itself told.clocks_are (few p₀ valid)
              (shown_heard p₀ passing (S p₀ valid)) (shown_heard s passing-s (S s valid-s))))
          go (inr n) = other n

    -- by a record that tells a port what its thread knows
    pub shows_tells : (p₀ : Port) → Valid p₀ → HasRow N p₀ → Passing p₀ → Moves v r (some p₀) none → (after : List Row)
        → Told (row_of N p₀) r.thread (suc (length H)) rows after → Shows v (r ∷ H) N after
    shows_tells p₀ w h k M after told =
        shows_told p₀ own w h thread_below k tt (fed_feeds v r p₀ M.fed_is) (inl refl) (λ q d. inr (alone q (draws→ v r q d))) (inr refl) rest after told
      where
        alone : (q : Port) → (own ≡ q) ⊎ (second v r ≡ some q) → q ≡ own
        alone q (inl e) = sym e
        alone q (inr e) = let z : none ≡ some q = sym M.drawn_is ∙ e in absurd (true≢false cc)

        rest : (p : Port) → Feeds v r p → (p ≡ p₀ → ⊥) → (p ≡ own) × (second v r ≡ none)
        rest p o n = go (fed_one_of v r p o)
          where
            go : (p ≡ own) ⊎ (fed_port v r.kind r.object r.field ≡ some p) ⊎ (T (is_write r.kind) × (p ≡ of_writes r.object r.field))
                → (p ≡ own) × (second v r ≡ none)
            go (inl e) = (e, M.drawn_is)
            go (inr (inl e)) = let z : some p₀ ≡ some p = sym M.fed_is ∙ e in absurd (n cc)
            go (inr (inr (a, e))) = absurd (subst T M.no_write a)

    -- by a record whose thread hears what a port knows
    pub shows_hears : (s : Port) → Valid s → Passing s → Moves v r none (some s) → (after : List Row) → Told r.thread (row_of N s) (suc (length H)) rows after
        → Shows v (r ∷ H) N after
    shows_hears s w k M after told =
        shows_told own s thread_below tt w tt k (inl refl) (second_draws v r s M.drawn_is) (λ q d. drawn q (draws→ v r q d)) (inl refl) rest after told
      where
        drawn : (q : Port) → (own ≡ q) ⊎ (second v r ≡ some q) → (q ≡ own) ⊎ (q ≡ s)
        drawn q (inl e) = inl (sym e)
        drawn q (inr e) = let z : some s ≡ some q = sym M.drawn_is ∙ e in inr (cc)

        rest : (p : Port) → Feeds v r p → (p ≡ own → ⊥) → (p ≡ own) × (second v r ≡ none)
        rest p o n = absurd (n (only_own M.fed_is M.no_write p o))

    -- what a place's row knows is no more than is told
    pub told_heard : (s : Port) → Valid s → Passing s → ((t : ℕ) → s ≡ of_thread t → ⊥) → (q : ℕ) (after : List Row) → Hears q (row_of N s) rows after
        → Told q (row_of N s) (suc (length H)) rows after
    unfolding Shows
    told_heard s w k n q after K = record { stored = K.stored; clocks_are = λ u h. K.clocks_are u h ∙ go u h ((shown_heard s k (S s w)).most u h) }
      where
        go : (u : ℕ) → u < 8 → (s ≡ of_thread u) ⊎ (clocks N rows s u ≤ length H)
            → max (clock_at rows q u) (clocks N rows s u) ≡ max (clock_at rows q u) (min (clocks N rows s u) (suc (length H)))
        go u h (inl e) = absurd (n u e)
        go u h (inr b) = omega arith

    -- ---- a plain access is kept

    module _ (plain : T (is_plain r.kind)) (object_below : r.object < 32) (field_below : r.field < 32)
        (numbered_here : 0 < get_or N (r.object * 32 + r.field) 0)
        (between after : List Row) where
      abbrev accesses : Port
      accesses = of_accesses r.object r.field

      abbrev writes : Port
      writes = of_writes r.object r.field

      fed : (p : Port) → (p ≡ accesses → ⊥) → Feeds v r p → (p ≡ own) ⊎ (T (is_write r.kind) × (p ≡ writes))
      fed p n o = go (fed_one_of v r p o)
        where
          go : (p ≡ own) ⊎ (fed_port v r.kind r.object r.field ≡ some p) ⊎ (T (is_write r.kind) × (p ≡ writes))
              → (p ≡ own) ⊎ (T (is_write r.kind) × (p ≡ writes))
          go (inl e) = inl e
          go (inr (inl e)) = let z : some accesses ≡ some p = sym (accesses_fed r.kind v r.object r.field plain) ∙ e in absurd (n cc)
          go (inr (inr e)) = inr e

      -- a port whose row is as it was: the thread's, or one that is not fed
      kept_other : (p : Port) → Valid p → ((u : ℕ) → clocks N after p u ≡ clocks N rows p u) → (Feeds v r p → p ≡ own) → Shown v (r ∷ H) p (clocks N after p)
      unfolding Shows
      kept_other p w same fed-own = by (feeds v r p) refl
        where
          still : Shown v H p (clocks N after p)
          still = shown_same v eight p w (clocks N rows p) (clocks N after p) (λ u h. same u) (S p w)

          by : (d : Bool) → feeds v r p ≡ d → Shown v (r ∷ H) p (clocks N after p)
          by true e =
              let d = fed-own (feeds→ v r p (rw e tt)) in
              subst (λ (q : Port). Shown v (r ∷ H) q (clocks N after q)) (sym d)
              (own_still (plain_second v r.kind r.object r.field plain) (subst (λ (q : Port). Shown v H q (clocks N after q)) d still))
          by false e = shown_unfed v r H thread_below p (clocks N after p) (λ o. subst T e (feeds← v r p o)) still

      -- a write, kept among the accesses and among the writes
      pub shows_write : T (is_write r.kind) → Keeps (row_of N accesses) r.thread (suc (length H)) rows between
          → Keeps (row_of N writes) r.thread (suc (length H)) between after → Shows v (r ∷ H) N after
      unfolding Shows
      shows_write a K L p w = go (which accesses p (object_below, field_below) numbered_here w) (which writes p (object_below, field_below) numbered_here w)
        where
          valid : Valid writes
          valid = (object_below, field_below)

          early : (q : Port) → Valid q → (q ≡ accesses → ⊥) → (u : ℕ) → clocks N between q u ≡ clocks N rows q u
          early q wq n u = elsewhere accesses (object_below, field_below) numbered_here rows between K.stored q wq n u

          late : (q : Port) → Valid q → (q ≡ writes → ⊥) → (u : ℕ) → clocks N after q u ≡ clocks N between q u
          late q wq n u = elsewhere writes valid numbered_here between after L.stored q wq n u

          apart : accesses ≡ writes → ⊥
          apart e = true≢false cc

          go : (p ≡ accesses) ⊎ (p ≡ accesses → ⊥) → (p ≡ writes) ⊎ (p ≡ writes → ⊥) → Shown v (r ∷ H) p (clocks N after p)
          go (inl e) x =
              subst (λ (q : Port). Shown v (r ∷ H) q (clocks N after q)) (sym e)
              (kept_fed r H thread_below (clocks N after accesses) (plain, refl, refl) eight
              (λ u h. late accesses (object_below, field_below) apart u ∙ K.clocks_are u h)
              (S accesses (object_below, field_below)))
          go (inr n) (inl e) =
              subst (λ (q : Port). Shown v (r ∷ H) q (clocks N after q)) (sym e)
              (kept_fed r H thread_below (clocks N after writes) (a, refl, refl) eight
              (λ u h. L.clocks_are u h ∙ ap (cond (eqb r.thread u) (suc (length H))) (early writes valid (λ g. apart (sym g)) u)) (S writes valid))
          go (inr n) (inr m) = kept_other p w (λ u. late p w m u ∙ early p w n u) (λ o. only (fed p n o))
            where
              only : (p ≡ own) ⊎ (T (is_write r.kind) × (p ≡ writes)) → p ≡ own
              only (inl e) = e
              only (inr (_, e)) = absurd (m e)

      -- a read, kept among the accesses, twice
      pub shows_read : is_write r.kind ≡ false → Keeps (row_of N accesses) r.thread (suc (length H)) rows between
          → Keeps (row_of N accesses) r.thread (suc (length H)) between after → Shows v (r ∷ H) N after
      unfolding Shows
      shows_read a K L p w = go (which accesses p (object_below, field_below) numbered_here w)
        where
          same : (q : Port) → Valid q → (q ≡ accesses → ⊥) → (u : ℕ) → clocks N after q u ≡ clocks N rows q u
          same q wq n u =
              elsewhere accesses (object_below, field_below) numbered_here between after L.stored q wq n u
              ∙ elsewhere accesses (object_below, field_below) numbered_here rows between K.stored q wq n u

          twice : (d : Bool) (x y : ℕ) → cond d x (cond d x y) ≡ cond d x y
          twice true x y = refl
          twice false x y = refl

          go : (p ≡ accesses) ⊎ (p ≡ accesses → ⊥) → Shown v (r ∷ H) p (clocks N after p)
          go (inl e) =
              subst (λ (q : Port). Shown v (r ∷ H) q (clocks N after q)) (sym e)
              (kept_fed r H thread_below (clocks N after accesses) (plain, refl, refl) eight
              (λ u h. L.clocks_are u h ∙ ap (cond (eqb r.thread u) (suc (length H))) (K.clocks_are u h) ∙ twice (eqb r.thread u) (suc (length H)) _)
              (S accesses (object_below, field_below)))
          go (inr n) = kept_other p w (same p w n) (λ o. only (fed p n o))
            where
              only : (p ≡ own) ⊎ (T (is_write r.kind) × (p ≡ writes)) → p ≡ own
              only (inl e) = e
              only (inr (b, _)) = absurd (subst T a b)
