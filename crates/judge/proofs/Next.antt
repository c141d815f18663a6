-- What the pass keeps goes on to the next record. Assumes nothing.
use Prim.Native.Nat.{ℕ, suc, ◌+◌, ◌*◌, ◌%◌, ◌<◌, ◌≤◌}
use native.Mathlib.Omega.{arith}
use native.Mathlib.Decide.{ℕ_discrete}
use native.Mathlib.Numerals.{add-one}
use mathlib.Core.Path.{◌≡◌, refl, sym, ap, subst, ◌∙◌}
use mathlib.Core.Bool.{Bool, true, false, cond, true≢false}
use mathlib.Core.List.{List, ◌∷◌}
use mathlib.Core.Logic.{◌⊎◌, inl, inr}
use mathlib.Core.Option.{some, none}
use lib.Dec.{T, eqb}
use lib.ListN.{length, get_or}
use Rattle.format.specs.Version.{Version}
use Rattle.log_records.specs.Record.{Record, is_plain}
use Rattle.log_records.specs.Packed.{kind_at, record_at, log_of}
use Rattle.log_order.specs.Accesses.{is_write}
use Rattle.log_order.proofs.Ports.{Port, of_thread, of_monitor, of_volatile, of_accesses, of_writes}
use Rattle.log_conflicts.specs.Conflicts.{Conflicting}
use Rattle.log_conflicts.specs.Judge.{Names}
use Rattle.log_conflicts.proofs.FirstConflict.{conflicting↔}
use Rattle.log_clocks.specs.Inner.Rows.{Row}
use Rattle.log_places.specs.Inner.Places.{place_at}
use Rattle.log_rows.specs.Inner.Rows.{place_row, is_access, ordering_kind, passes, kept_row}
use Rattle.log_row_stores.specs.Inner.Table.{Sound, Stored, Keeps, Hears, Told, late, kept}
use Rattle.log_effects.specs.Inner.Step.{PlacedStep, accesses, hears, tells, OtherStep, forks, joins, rests, Stepped, placed, unplaced, none_left}
use Rattle.std.proofs.Common.{Some, Result, Ok, Err, IsErr}
use Rattle.log_places.specs.declared.places.NoneLeft.{NoneLeft}
use Rattle.judge.specs.Inner.Found.{Found, Finds, finds_access, finds_full}
use Rattle.judge.proofs.PlaceNumbers.{Placed}
use Rattle.judge.proofs.PortRows.{row_of, Valid, HasRow}
use Rattle.judge.proofs.RecordPorts.{Moves, AtPlace, monitor, volatile, hearing, telling, resting, forking}
use Rattle.judge.proofs.RecordPorts.{joining, is_fork_lem, is_join, write_kind, numbered}
use Rattle.judge.proofs.RecordPorts.{place_row_lem, place_valid, place_has}
use Rattle.judge.proofs.Table.{Shows, Blank, Passing, blank_stored, shows_rests, shows_tells, shows_hears, told_heard, shows_write, shows_read}
use Rattle.judge.proofs.Going.{before, Going}
use Rattle.judge.proofs.Here.{Here, Stands, kind_here, kind_least, kind_most, fits, short, long, at_here, eight, next_past}
use Rattle.judge.proofs.Here.{unnumbered, placed_here, numbered_here, plain, late_names, on_time}
use Rattle.judge.proofs.Here as here

-- what is told of goes through the port of a place
place_passing : {o f : ℕ} (p : Port) → AtPlace o f p → Passing p
place_passing (of_monitor o) (monitor h) = tt
place_passing (of_volatile o f) (volatile h) = tt
place_passing (of_thread _) h = elim h [ ]
place_passing (of_accesses _ _) h = elim h [ ]
place_passing (of_writes _ _) h = elim h [ ]

not_thread_lem : {o f : ℕ} (p : Port) → AtPlace o f p → (t : ℕ) → p ≡ of_thread t → ⊥
not_thread_lem (of_monitor o) (monitor h) t e = let z : ◌≡◌ {A = ℕ} 0 1 = cc in omega arith
not_thread_lem (of_volatile o f) (volatile h) t e = let z : ◌≡◌ {A = ℕ} 0 1 = cc in omega arith
not_thread_lem (of_thread _) h t e = elim h [ ]
not_thread_lem (of_accesses _ _) h t e = elim h [ ]
not_thread_lem (of_writes _ _) h t e = elim h [ ]

module _ {v : Version} {b : List ℕ} {places i : ℕ} {N : List ℕ} {given : ℕ} {rows : List Row} (W : Here v b places i N given rows) where
  abbrev r : Record
  r = record_at b i

  abbrev k : ℕ
  k = kind_at b i

  abbrev H : List Record
  H = before b i

  few_records : length H < 4096
  few_records = omega (arith, long W, short W)

  now : i + 1 ≡ suc (length H)
  now = omega (arith, long W)

  -- a record that is no access is no unordered one
  no_conflict : is_plain r.kind ≡ false → Conflicting v (log_of b) i → ⊥
  no_conflict e x = subst T e ((conflicting↔ v (log_of b) i r (at_here W)).1 x).conflict.later_plain

  module _ {N' : List ℕ} {given' : ℕ} (S : Stands v b places i N' given' rows) where
    -- a table that shows the clocks with this record, which is no unordered access
    go_on_lem : (after : List Row) → length after ≡ length rows → Sound after → Blank given' after → (Conflicting v (log_of b) i → ⊥) → Shows v (r ∷ H) N' after
        → Going v b places (i + 1) N' given' after
    go_on_lem after same sound blank ordered shown =
        rw (add-one i)
        (record {
          most = W.going.most;
          room = omega (arith, W.going.room);
          sound = sound;
          numbers = S.numbers;
          few = λ h. let g = S.few h in omega arith;
          within = S.within;
          blank = blank;
          shows = rw (next_past W) shown;
          none_late = none_late_next;
        })
      where
        none_late_next : (j : ℕ) → j < suc i → Conflicting v (log_of b) j → ⊥
        none_late_next j h = go (ℕ_discrete j i)
          where
            go : Dec (j ≡ i) → Conflicting v (log_of b) j → ⊥
            go (yes e) x = ordered (subst (Conflicting v (log_of b)) e x)
            go (no m) x = W.going.none_late j (omega arith) x

    -- the row is a thread's, or one of a place's
    abbrev Spot : ℕ → Type 0
    Spot q = (q < 8) ⊎ ((m : ℕ) × ((0 < m) × (m ≤ given') × (place_row m ≤ q) × (q ≤ place_row m + 2)))

    stored_on : (q : ℕ) (after : List Row) → Spot q → Stored q rows after → is_plain r.kind ≡ false → Shows v (r ∷ H) N' after
        → Going v b places (i + 1) N' given' after
    stored_on q after spot K e shown =
        go_on_lem after K.long K.sound (blank_stored given' q rows after spot K S.blank) (no_conflict e) shown

    -- a record that tells a port, or that hears one
    tell_on : (p : Port) → Valid p → HasRow N' p → Passing p → Moves v r (some p) none → Spot (row_of N' p) → (after : List Row)
        → Told (row_of N' p) r.thread (i + 1) rows after → Going v b places (i + 1) N' given' after
    tell_on p w h g M spot after K =
        stored_on (row_of N' p) after spot K.stored M.no_access
        (shows_tells v r H N' given' S.numbers (eight W) (fits W).thread_fits few_records rows S.shows p w h g M after
        (subst (λ (x : ℕ). Told (row_of N' p) r.thread x rows after) now K))

    hear_on : (p : Port) → Valid p → Passing p → Moves v r none (some p) → (after : List Row) → Told r.thread (row_of N' p) (suc (length H)) rows after
        → Going v b places (i + 1) N' given' after
    hear_on p w g M after K =
        stored_on r.thread after (inl (fits W).thread_fits) K.stored M.no_access
        (shows_hears v r H N' given' S.numbers (eight W) (fits W).thread_fits few_records rows S.shows p w g M after K)

    -- a record at no place
    other_on : is_access k ≡ false → passes 6 (ordering_kind v 4) k ≡ false → passes 7 (ordering_kind v 5) k ≡ false → {after : List Row}
        → OtherStep k r.thread r.field (i + 1) rows after → Going v b places (i + 1) N' given' after
    other_on a h g {after} (forks e K) =
        let t : r.field < 8 = (fits W).fork_fits (is_fork_lem v r k (kind_least W) (kind_most W) (kind_here W) (fits W) e) in
        tell_on (of_thread r.field) t tt tt (forking v r k (kind_least W) (kind_most W) (kind_here W) (fits W) e) (inl t) after K
    other_on a h g {after} (joins e K) =
        let t : r.field < 8 = (fits W).join_fits (is_join v r k (kind_least W) (kind_most W) (kind_here W) (fits W) e) in
        hear_on (of_thread r.field) t tt (joining v r k (kind_least W) (kind_most W) (kind_here W) (fits W) e) after
        (subst (λ (x : ℕ). Told r.thread r.field x rows after) now K)
    other_on a h g (rests m n) =
        let M = resting v r k (kind_least W) (kind_most W) (kind_here W) (fits W) a h g m n in
        go_on_lem rows refl W.going.sound S.blank (no_conflict M.no_access)
        (shows_rests v r H N' given' S.numbers (eight W) (fits W).thread_fits few_records rows S.shows M)

    -- ---- a record at a place

    module _ {n : ℕ} (P : Placed N' given' (place_at b i) n) where
      abbrev at : ℕ
      at = place_row n

      number_most : n ≤ given'
      number_most = let m = S.numbers.most (place_at b i) in omega (arith, P.number)

      at_place : (q : ℕ) → at ≤ q → q ≤ at + 2 → Spot q
      at_place q x y = inr (n, (P.some, number_most, x, y))

      row : place_row (get_or N' (r.object * 32 + r.field) 0) ≡ at
      row = ap place_row P.number

      -- an access that is kept
      kept_on : is_access k ≡ true → (between after : List Row) → (Conflicting v (log_of b) i → ⊥) → Keeps (at + 1) r.thread (i + 1) rows between
          → Keeps (kept_row k at) r.thread (i + 1) between after → Going v b places (i + 1) N' given' after
      kept_on a between after ordered K L =
          go_on_lem after (L.stored.long ∙ K.stored.long) L.stored.sound
          (blank_stored given' (kept_row k at) between after (spot (eqb (k % 8) 3)) L.stored
          (blank_stored given' (at + 1) rows between (at_place (at + 1) (omega arith) (omega arith)) K.stored S.blank)) ordered
          (by (is_write r.kind) refl)
        where
          spot : (d : Bool) → Spot (cond d (at + 2) (at + 1))
          spot true = at_place (at + 2) (omega arith) (omega arith)
          spot false = at_place (at + 1) (omega arith) (omega arith)

          write_is : eqb (k % 8) 3 ≡ is_write r.kind
          write_is = write_kind k (kind_least W) (kind_most W) ∙ ap is_write (sym (kind_here W))

          -- the same at the time that it is
          keeps : {q x : ℕ} {one other : List Row} → q ≡ x → Keeps x r.thread (i + 1) one other → Keeps q r.thread (suc (length H)) one other
          keeps {x = x} {one = one} {other = other} e M =
              subst (λ (y : ℕ). Keeps y r.thread (suc (length H)) one other) (sym e) (subst (λ (y : ℕ). Keeps x r.thread y one other) now M)

          first : Keeps (row_of N' (of_accesses r.object r.field)) r.thread (suc (length H)) rows between
          first = keeps (ap (λ (m : ℕ). m + 1) row) K

          by : (d : Bool) → is_write r.kind ≡ d → Shows v (r ∷ H) N' after
          by true e =
              shows_write v r H N' given' S.numbers (eight W) (fits W).thread_fits few_records rows S.shows (plain W S P a)
              (fits W).object_fits (fits W).field_fits (numbered r.object r.field P) between after (rw e tt) first
              (keeps (ap (λ (m : ℕ). m + 2) row ∙ rw (write_is, e)) L)
          by false e =
              shows_read v r H N' given' S.numbers (eight W) (fits W).thread_fits few_records rows S.shows (plain W S P a)
              (fits W).object_fits (fits W).field_fits (numbered r.object r.field P) between after e first
              (keeps (ap (λ (m : ℕ). m + 1) row ∙ rw (write_is, e)) L)

      placed_on : {after : List Row} {d : Bool} → PlacedStep (ordering_kind v 4) (ordering_kind v 5) k r.thread at (i + 1) rows after d → d ≡ false
          → Going v b places (i + 1) N' given' after
      placed_on (accesses a (late l)) e = absurd (true≢false e)
      placed_on {after} (accesses a (kept {between = between} l K L)) e = kept_on a between after (on_time W S P a l) K L
      placed_on {after} (hears h K) e =
          let D = hearing v r k (kind_least W) (kind_most W) (kind_here W) (fits W) h in
          let w : Valid D.port = place_valid r.object r.field P (fits W).object_fits (fits W).field_fits D.port D.at_place in
          let q : at ≡ row_of N' D.port = sym (place_row_lem r.object r.field P D.port D.at_place) in
          hear_on D.port w (place_passing D.port D.at_place) D.moves after
          (told_heard v r H N' given' S.numbers (eight W) (fits W).thread_fits few_records rows S.shows D.port w
          (place_passing D.port D.at_place) (not_thread_lem D.port D.at_place) r.thread after
          (subst (λ (x : ℕ). Hears r.thread x rows after) q K))
      placed_on {after} (tells h K) e =
          let D = telling v r k (kind_least W) (kind_most W) (kind_here W) (fits W) h in
          let q : at ≡ row_of N' D.port = sym (place_row_lem r.object r.field P D.port D.at_place) in
          tell_on D.port (place_valid r.object r.field P (fits W).object_fits (fits W).field_fits D.port D.at_place)
          (place_has r.object r.field P D.port D.at_place) (place_passing D.port D.at_place) D.moves
          (at_place (row_of N' D.port) (omega arith) (omega arith)) after (subst (λ (x : ℕ). Told x r.thread (i + 1) rows after) q K)

      names : {after : List Row} {d : Bool} → PlacedStep (ordering_kind v 4) (ordering_kind v 5) k r.thread at (i + 1) rows after d → d ≡ true
          → Names v (log_of b) (some i)
      names (accesses a (late l)) e = late_names W S P a l
      names (accesses a (kept l K L)) e = absurd (true≢false (sym e))
      names (hears h K) e = absurd (true≢false (sym e))
      names (tells h K) e = absurd (true≢false (sym e))

  -- ---- what comes of the record

  module _ {read write : ℕ} (read_is : read ≡ ordering_kind v 4) (write_is : write ≡ ordering_kind v 5) where
    ordered_step : {t at time : ℕ} {after : List Row} {d : Bool} → PlacedStep read write k t at time rows after d
        → PlacedStep (ordering_kind v 4) (ordering_kind v 5) k t at time rows after d
    ordered_step {t} {at} {time} {after} {d} X =
        subst (λ (x : ℕ). PlacedStep x (ordering_kind v 5) k t at time rows after d) read_is
        (subst (λ (x : ℕ). PlacedStep read x k t at time rows after d) write_is X)

    -- it is no unordered access, it is one, or no number is left for its place
    pub next_by : {N' : List ℕ} {given' : ℕ} {after : List Row} {x : Result Bool NoneLeft} → Stepped b i read write places N given rows N' given' after x
        → x ≡ Ok false → Going v b places (i + 1) N' given' after
    next_by (placed {d = true} P X) e = cc
    next_by (placed {d = false} P X) e = placed_on (numbered_here W P) (placed_here W P) (ordered_step X) refl
    next_by (unplaced a h g X) e =
        other_on (unnumbered W) a (subst (λ (x : ℕ). passes 6 x k ≡ false) read_is h) (subst (λ (x : ℕ). passes 7 x k ≡ false) write_is g) X
    next_by (none_left P) e = cc

    pub found_by : {N' : List ℕ} {given' : ℕ} {after : List Row} {x : Result Bool NoneLeft} → Stepped b i read write places N given rows N' given' after x
        → x ≡ Ok true → Finds v b places (Ok (Some i))
    found_by (placed {d = true} P X) e = finds_access (names (numbered_here W P) (placed_here W P) (ordered_step X) refl)
    found_by (placed {d = false} P X) e = cc
    found_by (unplaced a h g X) e = cc
    found_by (none_left P) e = cc

    pub full_by : {N' : List ℕ} {given' : ℕ} {after : List Row} {x : Result Bool NoneLeft} {none : NoneLeft}
        → Stepped b i read write places N given rows N' given' after x → x ≡ Err none → (found : Found) → IsErr found → Finds v b places found
    full_by (placed P X) e found h = cc
    full_by (unplaced a h g X) e found l = cc
    full_by (none_left P) e (Err n) h = let d = here.none_left W P in finds_full d.0 d.1
    full_by (none_left P) e (Ok n) h = cc
