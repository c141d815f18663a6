-- The pass that writes the picks: what is written so far, with the picks of the rest, is all of them; the numbers of the threads are those of the definition.
-- Assumes nothing.
use Prim.Native.Nat.{ℕ, suc, ◌+◌, ◌%◌, ◌/◌, ◌<◌, ◌≤◌}
use native.Mathlib.Nat.{mod-eq_of_lt}
use native.Mathlib.Omega.{arith}
use native.Mathlib.Decide.{ℕ_discrete}
use mathlib.Core.Path.{◌≡◌, refl, sym, ap, ap₂, ◌∙◌, subst as along}
use mathlib.Core.Bool.{Bool, true, false, cond}
use mathlib.Core.List.{List, [], ◌∷◌, ◌++◌, append_assoc, append-nil}
use mathlib.Core.Option.{some, none}
use lib.Dec.{eqb}
use lib.ListN.{length, get_or, set, replicate, drop, length-set, length-append, length-replicate, drop_of_length-le}
use lib.Seq.{drop-cons, get_or-set_same, get_or-set_other}
use borrow.Author.Tests.{eq-eqb, ne_eqb}
use Rattle.format.specs.Area.{overwrite}
use Rattle.format.proofs.Filled.{zeros}
use Rattle.format.proofs.AreaLaws.{overwrite_none, overwrite_next, overwrite_length}
use Rattle.log_records.specs.Record.{Record}
use Rattle.log_records.specs.Packed.{record_at, record_count, log_of}
use Rattle.log_records.proofs.RoundTrip.{count_log, log_element}
use Rattle.log_order.proofs.Past.{at→get_d}
use Rattle.log_packing.specs.Inner.Columns.{ReadAt}
use Rattle.log_packing.specs.declared.Columns.{Columns}
use Rattle.side_by_side.specs.Schedule.{Numbers, is_fork, first_numbers, numbered, numbers_after, next_after, or_zero, picks_from, picks_of}
use Rattle.log_schedule_writer.specs.Inner.Kept.{flagged, picks_in, Small}
use Rattle.log_schedule_writer.proofs.ForkTests.{fork_here}

pub record Writing (b : List ℕ) (kept : List Bool) (before numbers : List ℕ) (next at index : ℕ) (area : List ℕ) : Type 0 where
  pub within : index ≤ length b / 3
  pub numbers_long : length numbers ≡ 32
  pub names : Numbers
  pub shows : (p : ℕ) → p < 32 → get_or numbers p 0 ≡ or_zero (names p)
  pub next_most : next ≤ index + 1
  pub at_most : at ≤ index
  pub done : List ℕ
  pub at_is : at ≡ length done
  pub area_is : area ≡ overwrite done before
  pub rest : done ++ picks_from (flagged kept) index names next (drop index (log_of b)) ≡ picks_in b kept

pub writing_start : (b : List ℕ) (kept : List Bool) (before : List ℕ) → Writing b kept before (replicate 32 0) 1 0 0 before
unfolding picks_of
writing_start b kept before = record {
  within = omega arith;
  numbers_long = length-replicate {A = ℕ} 32 0;
  names = first_numbers;
  shows = λ p h. zeros 32 p ∙ first (eqb p 0);
  next_most = omega arith;
  at_most = omega arith;
  done = [];
  at_is = refl;
  area_is = sym (overwrite_none before);
  rest = refl;
}
  where
    first : (x : Bool) → 0 ≡ or_zero (cond x (some 0) none)
    first true = refl
    first false = refl

pub writing_end : (b : List ℕ) (kept : List Bool) (before numbers : List ℕ) (next at index : ℕ) (area : List ℕ)
    → Writing b kept before numbers next at index area → length b / 3 ≤ index
    → area ≡ overwrite (picks_in b kept) before
unfolding picks_from record_count
writing_end b kept before numbers next at index area W h =
    let e : drop index (log_of b) ≡ [] = drop_of_length-le (log_of b) {i = index} (omega (arith, count_log b)) in
    W.area_is ∙ ap (λ (l : List ℕ). overwrite l before)
    (sym (append-nil W.done) ∙ ap (λ (L : List Record). W.done ++ picks_from (flagged kept) index W.names next L) (sym e) ∙ W.rest)

module _ {b : List ℕ} {kept : List Bool} {before numbers : List ℕ} {next at index : ℕ} {area : List ℕ} (W : Writing b kept before numbers next at index area)
    (inside : index < length b / 3) where
  abbrev r : Record
  r = record_at b index

  counted : index < record_count b
  unfolding record_count
  counted = inside

  one_more_lem : drop index (log_of b) ≡ r ∷ drop (suc index) (log_of b)
  one_more_lem =
      drop-cons (log_of b) index r (omega (arith, counted, count_log b))
      ∙ ap (λ (z : Record). z ∷ drop (suc index) (log_of b)) (at→get_d (log_of b) index r r (log_element b index counted))

  -- the picks of the rest, by whether this move is kept
  rest_by : (x : Bool) → flagged kept index ≡ x
      → W.done ++ cond x (or_zero (W.names r.thread) ∷ picks_from (flagged kept) (suc index) (numbers_after r W.names next) (next_after r next)
      (drop (suc index) (log_of b)))
      (picks_from (flagged kept) (suc index) W.names next (drop (suc index) (log_of b)))
      ≡ picks_in b kept
  unfolding picks_from
  rest_by x e =
      ap (λ (y : Bool).
      W.done ++ cond y (or_zero (W.names r.thread) ∷ picks_from (flagged kept) (suc index) (numbers_after r W.names next) (next_after r next)
      (drop (suc index) (log_of b)))
      (picks_from (flagged kept) (suc index) W.names next (drop (suc index) (log_of b)))) (sym e)
      ∙ ap (λ (L : List Record). W.done ++ picks_from (flagged kept) index W.names next L) (sym one_more_lem) ∙ W.rest

  -- it is not
  pub writing_skip : (i : ℕ) → i ≡ suc index → flagged kept index ≡ false → Writing b kept before numbers next at i area
  writing_skip i q e = record {
    within = omega (arith, inside);
    numbers_long = W.numbers_long;
    names = W.names;
    shows = W.shows;
    next_most = omega (arith, W.next_most);
    at_most = omega (arith, W.at_most);
    done = W.done;
    at_is = W.at_is;
    area_is = W.area_is;
    rest = ap (λ (n : ℕ). W.done ++ picks_from (flagged kept) n W.names next (drop n (log_of b))) q ∙ rest_by false e;
  }

  -- it is
  module _ {c : Columns} (R : ReadAt b index c) (e : flagged kept index ≡ true) (room : length (picks_in b kept) ≤ length before)
      (small : Small (picks_in b kept)) where
    abbrev x : ℕ
    x = or_zero (W.names r.thread)

    abbrev later : List ℕ
    later = picks_from (flagged kept) (suc index) (numbers_after r W.names next) (next_after r next) (drop (suc index) (log_of b))

    all : W.done ++ (x ∷ later) ≡ picks_in b kept
    all = rest_by true e

    fits : length W.done < length before
    fits = let n : length (W.done ++ (x ∷ later)) ≡ length (picks_in b kept) = ap length all in omega (arith, n, length-append W.done (x ∷ later), room)

    pub at_below : at < length area
    at_below = let n : length area ≡ length (overwrite W.done before) =
        ap length W.area_is in omega (arith, n, W.at_is, fits, overwrite_length W.done before (omega (arith, fits)))

    at_front : (l : List ℕ) (y : ℕ) (k : List ℕ) → get_or (l ++ (y ∷ k)) (length l) 0 ≡ y
    at_front [] y k = refl
    at_front (z ∷ l) y k = at_front l y k

    few : x < 8
    few = along (λ (n : ℕ). n < 8) (ap (λ (l : List ℕ). get_or l (length W.done) 0) (sym all) ∙ at_front W.done x later) (small (length W.done))

    thread_below : c.thread < 32
    thread_below = omega (arith, R.narrow.thread_below)

    value_is : get_or numbers c.thread 0 % 8 ≡ x
    value_is =
        let v : get_or numbers c.thread 0 ≡ x = W.shows c.thread thread_below ∙ ap (λ (p : ℕ). or_zero (W.names p)) R.thread_is in
        ap (λ (n : ℕ). n % 8) v ∙ mod-eq_of_lt few

    area_next : set area at (get_or numbers c.thread 0 % 8) ≡ overwrite (W.done ++ (x ∷ [])) before
    area_next =
        ap₂ (λ (l : List ℕ) (n : ℕ). set l n (get_or numbers c.thread 0 % 8)) W.area_is W.at_is
        ∙ ap (set (overwrite W.done before) (length W.done)) value_is ∙ overwrite_next W.done before x fits

    next_done : (τ : Numbers) (n : ℕ) → numbers_after r W.names next ≡ τ → next_after r next ≡ n
        → (W.done ++ (x ∷ [])) ++ picks_from (flagged kept) (suc index) τ n (drop (suc index) (log_of b)) ≡ picks_in b kept
    next_done τ n h k =
        append_assoc W.done (x ∷ []) (picks_from (flagged kept) (suc index) τ n (drop (suc index) (log_of b)))
        ∙ ap₂ (λ (f : Numbers) (m : ℕ). W.done ++ (x ∷ picks_from (flagged kept) (suc index) f m (drop (suc index) (log_of b)))) (sym h) (sym k) ∙ all

    longer : (a : ℕ) → a ≡ suc at → a ≡ length (W.done ++ (x ∷ []))
    longer a q = omega (arith, W.at_is, length-append W.done (x ∷ []))

    -- and makes no thread
    pub writing_pick : (i a : ℕ) → i ≡ suc index → a ≡ suc at → eqb c.kind 8 ≡ false
        → Writing b kept before numbers next a i (set area at (get_or numbers c.thread 0 % 8))
    writing_pick i a q qa k =
        let f : is_fork r.kind ≡ false = sym (fork_here R) ∙ k in
        record {
          within = omega (arith, inside);
          numbers_long = W.numbers_long;
          names = W.names;
          shows = W.shows;
          next_most = omega (arith, W.next_most);
          at_most = omega (arith, W.at_most);
          done = W.done ++ (x ∷ []);
          at_is = longer a qa;
          area_is = area_next;
          rest = ap (λ (n : ℕ). (W.done ++ (x ∷ [])) ++ picks_from (flagged kept) n W.names next (drop n (log_of b))) q
              ∙ next_done W.names next (ap (λ (y : Bool). cond y (numbered W.names r.field next) W.names) f)
              (ap (λ (y : Bool). cond y (suc next) next) f);
        }

    -- or makes the next one
    pub writing_fork : (i a n : ℕ) → i ≡ suc index → a ≡ suc at → n ≡ suc next → eqb c.kind 8 ≡ true
        → Writing b kept before (set numbers c.field next) n a i (set area at (get_or numbers c.thread 0 % 8))
    writing_fork i a n q qa qn k =
        let f : is_fork r.kind ≡ true = sym (fork_here R) ∙ k in
        record {
          within = omega (arith, inside);
          numbers_long = length-set numbers c.field next ∙ W.numbers_long;
          names = numbered W.names r.field next;
          shows = λ p h. shown p h (ℕ_discrete r.field p);
          next_most = omega (arith, W.next_most);
          at_most = omega (arith, W.at_most);
          done = W.done ++ (x ∷ []);
          at_is = longer a qa;
          area_is = area_next;
          rest = ap₂ (λ (m o : ℕ). (W.done ++ (x ∷ [])) ++ picks_from (flagged kept) m (numbered W.names r.field next) o (drop m (log_of b))) q qn
              ∙ next_done (numbered W.names r.field next) (suc next) (ap (λ (y : Bool). cond y (numbered W.names r.field next) W.names) f)
              (ap (λ (y : Bool). cond y (suc next) next) f);
        }
      where
        field_below : c.field < 32
        field_below = R.narrow.field_below

        shown : (p : ℕ) → p < 32 → Dec (r.field ≡ p) → get_or (set numbers c.field next) p 0 ≡ or_zero (numbered W.names r.field next p)
        shown p h (yes d) =
            ap (λ (m : ℕ). get_or (set numbers c.field next) m 0) (sym (R.field_is ∙ d))
            ∙ get_or-set_same numbers c.field next 0 (omega (arith, W.numbers_long, field_below))
            ∙ sym (ap (λ (y : Bool). or_zero (cond y (some next) (W.names p))) (eq-eqb r.field p d))
        shown p h (no d) =
            get_or-set_other numbers c.field p next 0 (λ z. d (sym R.field_is ∙ sym z)) ∙ W.shows p h
            ∙ sym (ap (λ (y : Bool). or_zero (cond y (some next) (W.names p))) (ne_eqb r.field p d))

-- the same by other names
pub writing_as : {b : List ℕ} {kept : List Bool} {before numbers numbers' : List ℕ} {next next' at at' index : ℕ} {area area' : List ℕ} → area' ≡ area
    → numbers' ≡ numbers → next' ≡ next → at' ≡ at
    → Writing b kept before numbers next at index area × (length area ≡ length before)
    → Writing b kept before numbers' next' at' index area' × (length area' ≡ length before)
writing_as ea en ex et W = rw (ea, en, ex, et) W
