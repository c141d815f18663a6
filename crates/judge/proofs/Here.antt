-- The pass at a record of a log that is not refused: what the table must be for it, the number of its place, and whether it is an unordered access. Assumes
-- nothing.
use Prim.Native.Nat.{ℕ, zero, suc, ◌+◌, ◌*◌, ◌/◌, ◌%◌, ◌<◌, ◌≤◌}
use native.Mathlib.Omega.{arith}
use native.Mathlib.Decide.{ℕ_discrete, dec_lt}
use mathlib.Core.Path.{◌≡◌, refl, sym, ap, subst, ◌∙◌}
use mathlib.Core.Bool.{Bool, true, false, ◌||◌, not, true≢false}
use mathlib.Core.List.{List, ◌∷◌}
use mathlib.Core.Logic.{◌⊎◌, inl, inr}
use mathlib.Core.Option.{some, none}
use lib.Dec.{T, eqb, ltb, eqb→eq}
use lib.ListN.{length, get_or}
use borrow.Author.Tests.{ltb-true, ltb-false}
use Rattle.format.specs.Version.{Version}
use Rattle.format.proofs.RefusalLaws.{neither}
use Rattle.std.proofs.Common.{Ok, Err}
use Rattle.log_records.specs.Record.{Kind, readv, writev, acquire, release, fork, join, Record, is_plain}
use Rattle.log_records.specs.Packed.{kind_of, kind_at, record_at, record_count, log_of}
use Rattle.log_records.specs.Refusals.{wrong_columns, log_refusal}
use Rattle.log_records.proofs.RoundTrip.{count_log, log_element}
use Rattle.log_records.proofs.Accepted.{RightRecord, accepted}
use Rattle.log_order.specs.Accesses.{is_write}
use Rattle.log_order.specs.Chains.{At}
use Rattle.log_order.proofs.Newest.{at_below}
use Rattle.log_order.proofs.Past.{past_suc, past_length, at→get_d}
use Rattle.log_order.proofs.Ports.{of_thread, of_accesses, of_writes}
use Rattle.log_conflicts.specs.Conflicts.{Conflicting}
use Rattle.log_conflicts.specs.Judge.{Names, names_first}
use Rattle.log_conflicts.proofs.Conflicts.{Eight, held, held_by}
use Rattle.log_conflicts.proofs.FirstConflict.{conflicting↔, at_past}
use Rattle.log_conflicts.proofs.RowClocks.{Kept, lower→clash, clash→lower}
use Rattle.log_packing.proofs.Decoded.{kind_is_kind, thread_of_word, object_of_word, field_of_word}
use Rattle.log_clocks.specs.Inner.Rows.{Row, clock_of, row_at, lower_of}
use Rattle.log_places.specs.declared.places.NoneLeft.{NoneLeft}
use Rattle.log_places.specs.Inner.Places.{place_at, numbers_of, Numbered, known, next, full}
use Rattle.log_rows.specs.Inner.Rows.{place_row, is_access, held_row}
use Rattle.log_row_stores.specs.Inner.Table.{clock_at}
use Rattle.log_effects.specs.Inner.Step.{Ready}
use Rattle.judge.proofs.PlaceNumbers.{Places, Placed, placed, given_below}
use Rattle.judge.proofs.PortRows.{row_of}
use Rattle.judge.proofs.RecordPorts.{Fits, is_fork_lem, is_join, access_plain, write_kind}
use Rattle.judge.proofs.Table.{Shows, Blank, shows_placed, blank_more, clocks}
use Rattle.judge.proofs.Going.{before, Going, threads}

fork_field : (k : Kind) (f x : ℕ) → k ≡ fork → wrong_columns k f x ≡ false → f < 8
fork_field k f x e h = let w : (ltb 7 f || not (eqb x 0)) ≡ false = rw e at h in omega (arith, ltb-false 7 f (neither _ _ w).0)

join_field : (k : Kind) (f x : ℕ) → k ≡ join → wrong_columns k f x ≡ false → f < 8
join_field k f x e h = let w : ltb 7 f ≡ false = rw e at h in omega (arith, ltb-false 7 f w)

-- an acquire or a release has no field, and a volatile access has one
no_field : (f x : ℕ) → (not (eqb f 0) || not (eqb x 0)) ≡ false → f ≡ 0
no_field f x h = go (eqb f 0) refl (neither _ _ h).0
  where
    go : (d : Bool) → eqb f 0 ≡ d → not d ≡ false → f ≡ 0
    go true e q = eqb→eq f 0 (rw e tt)
    go false e q = absurd (true≢false q)

some_field : (f : ℕ) → eqb f 0 ≡ false → 0 < f
some_field zero h = absurd (true≢false h)
some_field (suc f) h = omega arith

monitor_field : (k : Kind) (f x : ℕ) → (k ≡ acquire) ⊎ (k ≡ release) → wrong_columns k f x ≡ false → f ≡ 0
monitor_field k f x (inl e) h = let w : (not (eqb f 0) || not (eqb x 0)) ≡ false = rw e at h in no_field f x w
monitor_field k f x (inr e) h = let w : (not (eqb f 0) || not (eqb x 0)) ≡ false = rw e at h in no_field f x w

volatile_field : (k : Kind) (f x : ℕ) → (k ≡ readv) ⊎ (k ≡ writev) → wrong_columns k f x ≡ false → 0 < f
volatile_field k f x (inl e) h = let w : eqb f 0 ≡ false = rw e at h in some_field f w
volatile_field k f x (inr e) h = let w : eqb f 0 ≡ false = rw e at h in some_field f w

-- a lower clock, or none
lower_some : (a b : Row) (n : ℕ) → lower_of n a b ≡ true → (u : ℕ) × ((u < n) × (clock_of a u < clock_of b u))
unfolding lower_of
lower_some a b zero e = absurd (true≢false (sym e))
lower_some a b (suc n) e = go (lower_of n a b) (lower_some a b n) (ltb (clock_of a n) (clock_of b n)) refl e
  where
    go : (d : Bool) → (d ≡ true → (u : ℕ) × ((u < n) × (clock_of a u < clock_of b u))) → (f : Bool) → ltb (clock_of a n) (clock_of b n) ≡ f → (d || f) ≡ true
        → (u : ℕ) × ((u < suc n) × (clock_of a u < clock_of b u))
    go true ih f h x = let l = ih refl in (l.0, (let k = l.1.0 in omega arith, l.1.1))
    go false ih true h x = (n, (omega arith, ltb-true (clock_of a n) (clock_of b n) h))
    go false ih false h x = absurd (true≢false (sym x))

lower_none : (a b : Row) (n : ℕ) → lower_of n a b ≡ false → (u : ℕ) → u < n → clock_of a u < clock_of b u → ⊥
unfolding lower_of
lower_none a b zero e u h k = absurd (omega arith)
lower_none a b (suc n) e u h k =
    let d = neither (lower_of n a b) (ltb (clock_of a n) (clock_of b n)) e in
    go (ℕ_discrete u n) d.1 (λ l. lower_none a b n d.0 u l k)
  where
    go : Dec (u ≡ n) → ltb (clock_of a n) (clock_of b n) ≡ false → (u < n → ⊥) → ⊥
    go (yes g) y ih =
        let w : clock_of a n < clock_of b n = subst (λ (m : ℕ). clock_of a m < clock_of b m) g k in
        omega (arith, ltb-false (clock_of a n) (clock_of b n) y)
    go (no g) y ih = ih (omega arith)

-- the pass is at record i
pub record Here (v : Version) (b : List ℕ) (places i : ℕ) (N : List ℕ) (given : ℕ) (rows : List Row) : Type 0 where
  pub accepted_log : log_refusal b ≡ none
  pub below : i < length b / 3
  pub going : Going v b places i N given rows

-- what holds there once the record's place has its number, if the record is at a place
pub record Stands (v : Version) (b : List ℕ) (places i : ℕ) (N : List ℕ) (given : ℕ) (rows : List Row) : Type 0 where
  pub numbers : Places N given
  pub few : given < 1024 → given ≤ i + 1
  pub within : given ≤ places
  pub blank : Blank given rows
  pub shows : Shows v (before b i) N rows

module _ {v : Version} {b : List ℕ} {places i : ℕ} {N : List ℕ} {given : ℕ} {rows : List Row} (W : Here v b places i N given rows) where
  abbrev G : Going v b places i N given rows
  G = W.going

  abbrev r : Record
  r = record_at b i

  inside : i < record_count b
  unfolding record_count
  inside = W.below

  right : RightRecord b i
  right = (accepted b W.accepted_log).right i inside

  pub kind_here : (record_at b i).kind ≡ kind_of (kind_at b i)
  kind_here = kind_is_kind b i

  pub kind_least : 0 < kind_at b i
  kind_least = omega (arith, right.kind_least)

  pub kind_most : kind_at b i ≤ 11
  kind_most = omega (arith, right.kind_most)

  pub fits : Fits (record_at b i)
  fits =
      record {
        thread_fits = omega (arith, thread_of_word b i);
        object_fits = omega (arith, object_of_word b i);
        field_fits = omega (arith, field_of_word b i);
        fork_fits = λ e. fork_field _ _ _ e right.columns;
        join_fits = λ e. join_field _ _ _ e right.columns;
        acquire_fits = λ e. monitor_field _ _ _ (inl e) right.columns;
        release_fits = λ e. monitor_field _ _ _ (inr e) right.columns;
        readv_fits = λ e. volatile_field _ _ _ (inl e) right.columns;
        writev_fits = λ e. volatile_field _ _ _ (inr e) right.columns;
      }

  pub short : i < 4096
  short = omega (arith, W.below, (accepted b W.accepted_log).length_most)

  within : i < length (log_of b)
  within = omega (arith, inside, count_log b)

  pub long : length (before b i) ≡ i
  long = past_length (log_of b) i (omega (arith, within))

  pub at_here : At (log_of b) i (record_at b i)
  at_here = log_element b i inside

  pub eight : Eight (before b i)
  eight j w h = let k = at_below h in threads b W.accepted_log j w ((at_past v (log_of b) i r at_here j w (omega (arith, long))).1 h)

  pub next_past : before b (suc i) ≡ record_at b i ∷ before b i
  next_past = past_suc (log_of b) i r within ∙ ap (λ (x : Record). x ∷ before b i) (at→get_d (log_of b) i r r at_here)

  place_below : place_at b i < 1024
  place_below = omega (arith, fits.object_fits, fits.field_fits)

  -- by the numbers that are kept
  pub ready : (kept : List ℕ) → length kept ≡ 1024 → N ≡ numbers_of places kept → Ready b i places kept rows
  ready kept kept_long e =
      record {
        numbers = record { below = W.below; long = kept_long };
        most_below = G.most;
        short = short;
        field_below = thread_field;
        numbered = λ p. let m = G.numbers.most p in subst (λ (M : List ℕ). get_or M p 0 ≤ places) e (omega (arith, G.within));
        sound = G.sound;
        room = G.room;
      }
    where
      thread_field : (kind_at b i ≡ 8) ⊎ (kind_at b i ≡ 9) → r.field < 8
      thread_field (inl k) = fits.fork_fits (is_fork_lem v r (kind_at b i) kind_least kind_most kind_here fits k)
      thread_field (inr k) = fits.join_fits (is_join v r (kind_at b i) kind_least kind_most kind_here fits k)

  -- ---- the number of the record's place

  -- all numbers are given, and there are more places
  pub none_left : {N' : List ℕ} {given' : ℕ} {e : NoneLeft} → Numbered N given (place_at b i) places N' given' (Err e)
      → (places < record_count b) × (places < 1024)
  none_left (full k l) = let h = given_below G.numbers (place_at b i) place_below k in let g = G.few h in (omega (arith, inside), omega arith)

  -- a record at no place
  pub unnumbered : Stands v b places i N given rows
  unnumbered = record { numbers = G.numbers; few = λ h. let g = G.few h in omega arith; within = G.within; blank = G.blank; shows = G.shows }

  pub placed_here : {N' : List ℕ} {given' n : ℕ} → Numbered N given (place_at b i) places N' given' (Ok n) → Placed N' given' (place_at b i) n
  placed_here P = placed G.numbers place_below P

  pub numbered_here : {N' : List ℕ} {given' n : ℕ} → Numbered N given (place_at b i) places N' given' (Ok n) → Stands v b places i N' given' rows
  numbered_here {N'} {given'} P =
      record {
        numbers = (placed_here P).places;
        few = (bounds P).0;
        within = (bounds P).1;
        blank = blank_more given given' rows (more P) G.blank;
        shows = shows_placed v (before b i) eight G.numbers place_below rows G.blank G.shows P;
      }
    where
      bounds : {M : List ℕ} {more m : ℕ} → Numbered N given (place_at b i) places M more (Ok m) → (more < 1024 → more ≤ i + 1) × (more ≤ places)
      bounds (known k) = (λ h. let g = G.few h in omega arith, G.within)
      bounds (next k l) = (λ h. let g = G.few (omega arith) in omega arith, omega arith)

      more : {M : List ℕ} {later m : ℕ} → Numbered N given (place_at b i) places M later (Ok m) → given ≤ later
      more (known k) = omega arith
      more (next k l) = omega arith

  -- ---- whether it is an unordered access

  module _ {N' : List ℕ} {given' n : ℕ} (S : Stands v b places i N' given' rows) (P : Placed N' given' (place_at b i) n)
      (access : is_access (kind_at b i) ≡ true) where
    pub plain : T (is_plain (record_at b i).kind)
    plain = rw (kind_here, ← access_plain (kind_at b i) kind_least kind_most, access) tt

    held_row_lem : row_of N' (held r) ≡ held_row (kind_at b i) (place_row n)
    held_row_lem = go (is_write r.kind) refl (is_plain r.kind) refl
      where
        write_is : eqb (kind_at b i % 8) 3 ≡ is_write r.kind
        write_is = write_kind (kind_at b i) kind_least kind_most ∙ ap is_write (sym kind_here)

        row : place_row (get_or N' (r.object * 32 + r.field) 0) ≡ place_row n
        row = ap place_row P.number

        go : (x : Bool) → is_write r.kind ≡ x → (y : Bool) → is_plain r.kind ≡ y
            → row_of N' (held_by x y r.thread r.object r.field) ≡ held_row (kind_at b i) (place_row n)
        go true e y g = ap (λ (m : ℕ). m + 1) row ∙ rw (write_is, e)
        go false e true g = ap (λ (m : ℕ). m + 2) row ∙ rw (write_is, e)
        go false e false g = absurd (subst T g plain)

    kept_held : Kept v (before b i) (held r) (clock_at rows (held_row (kind_at b i) (place_row n)))
    unfolding Shows
    kept_held = subst (λ (q : ℕ). Kept v (before b i) (held r) (clock_at rows q)) held_row_lem (go (is_write r.kind) refl (is_plain r.kind) refl)
      where
        go : (x : Bool) → is_write r.kind ≡ x → (y : Bool) → is_plain r.kind ≡ y
            → Kept v (before b i) (held_by x y r.thread r.object r.field) (clocks N' rows (held_by x y r.thread r.object r.field))
        go true e y g = S.shows (of_accesses r.object r.field) (fits.object_fits, fits.field_fits)
        go false e true g = S.shows (of_writes r.object r.field) (fits.object_fits, fits.field_fits)
        go false e false g = absurd (subst T g plain)

    -- the test says whether it conflicts with an access that does not reach it
    pub late_names : lower_of 8 (row_at rows r.thread) (row_at rows (held_row (kind_at b i) (place_row n))) ≡ true → Names v (log_of b) (some i)
    unfolding Shows
    late_names e =
        let l = lower_some (row_at rows r.thread) (row_at rows (held_row (kind_at b i) (place_row n))) 8 e in
        names_first ((conflicting↔ v (log_of b) i r at_here).0
        (lower→clash v (before b i) r plain (S.shows (of_thread r.thread) fits.thread_fits) kept_held l.0 l.1.0 l.1.1))
        (λ j k. not_below j k)
      where
        not_below : (j : ℕ) → Conflicting v (log_of b) j → i ≤ j
        not_below j k = go (dec_lt j i)
          where
            go : Dec (j < i) → i ≤ j
            go (yes h) = absurd (G.none_late j h k)
            go (no h) = omega arith

    pub on_time : lower_of 8 (row_at rows r.thread) (row_at rows (held_row (kind_at b i) (place_row n))) ≡ false → Conflicting v (log_of b) i → ⊥
    unfolding Shows
    on_time e k =
        let l = clash→lower v (before b i) r plain (S.shows (of_thread r.thread) fits.thread_fits) kept_held eight
        ((conflicting↔ v (log_of b) i r at_here).1 k) in
        lower_none (row_at rows r.thread) (row_at rows (held_row (kind_at b i) (place_row n))) 8 e l.0 l.1.0 l.1.1
