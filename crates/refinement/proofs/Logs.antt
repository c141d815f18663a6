-- A record that the code writes is the record's three bytes, and the log area after a run has the run's records in it. Assumes nothing.
use Prim.Native.Nat.{ℕ, suc, ◌+◌, ◌*◌, ◌/◌, ◌%◌, ◌≤◌, ◌<◌}
use native.Mathlib.Nat.{add-zero}
use native.Mathlib.Omega.{arith}
use mathlib.Core.Path.{◌≡◌, refl, sym, ap, ap₂, ◌∙◌}
use mathlib.Core.Bool.{Bool, true, false, cond}
use mathlib.Core.List.{List, [], ◌∷◌, ◌++◌, append_assoc, append-nil}
use mathlib.Core.Option.{Option, some, none}
use lib.Dec.{eqb}
use lib.ListN.{length, set, take, drop, length-append, length-set, take-append-drop}
use lib.Seq.{length-take-le, take_at, drop-append-add, drop-drop}
use borrow.Author.Tests.{eq-eqb, ne_eqb}
use Rattle.log_records.specs.Record.{Record}
use Rattle.log_records.specs.Packed.{packed, three_bytes, bytes_of}
use Rattle.log_records.proofs.KindNumbers.{kind_number_lem}
use Rattle.rules.specs.Run.{logged}
use Rattle.run_state.specs.declared.Entry.{Entry}
use Rattle.log_packing.specs.Inner.Packing.{word_of}
use Rattle.log_packing.proofs.Packing.{ColumnsOf, word_packed, put_bytes}
use Rattle.run_tally.specs.Inner.Tally.{log_put, records_after}
use Rattle.refinement.proofs.Tests.{test_true, test_false}
use Rattle.refinement.proofs.Looks.{Written, Entered}

-- ---- bytes put over a list, from place i on

unfoldable pub overlay : List ℕ → ℕ → List ℕ → List ℕ
overlay l i bs = take i l ++ bs ++ drop (i + length bs) l

overlay_none : (l : List ℕ) (i : ℕ) → overlay l i [] ≡ l
unfolding overlay
overlay_none l i = ap₂ (λ (x : List ℕ) (k : ℕ). x ++ drop k l) (append-nil (take i l)) (add-zero i) ∙ take-append-drop i l

pub no_records : (l : List ℕ) (i : ℕ) → overlay l i (bytes_of []) ≡ l
unfolding bytes_of
no_records l i = overlay_none l i

overlay_more : (l : List ℕ) (i : ℕ) (t bs : List ℕ) → i + length t ≤ length l → overlay (overlay l i t) (i + length t) bs ≡ overlay l i (t ++ bs)
unfolding overlay
overlay_more l i t bs h =
    let front : length (take i l ++ t) ≡ i + length t = length-append (take i l) t ∙ ap (λ (k : ℕ). k + length t) (length-take-le i l (omega arith)) in
    ap₂ (λ (x y : List ℕ). x ++ bs ++ y)
    (take_at (take i l ++ t) (drop (i + length t) l) (i + length t) front)
    (ap (λ (k : ℕ). drop (k + length bs) (take i l ++ t ++ drop (i + length t) l)) (sym front)
    ∙ drop-append-add (take i l ++ t) (drop (i + length t) l) (length bs)
    ∙ drop-drop (length bs) (i + length t) l)
    ∙ ap₂ (λ (x : List ℕ) (k : ℕ). x ++ drop k l) (append_assoc (take i l) t bs) end
  where
    end : i + length t + length bs ≡ i + length (t ++ bs)
    end = let e = length-append t bs in omega arith

-- ---- a record

-- the columns of an entry that is a record
columns_of : (p : ℕ) (e : Entry) (r : Record) → Written p e r → ColumnsOf r e.kind p e.object e.field e.value
columns_of p e r w = record {
  kind = w.kind;
  thread = w.thread;
  object = w.object;
  field = w.field;
  value = w.value;
  thread_fits = w.thread_fits;
  object_fits = w.object_fits;
  field_fits = w.field_fits;
  value_fits = w.value_fits;
}

-- an entry that is a record is put as its three bytes
put_record : (l : List ℕ) (n p : ℕ) (e : Entry) (r : Record) → Written p e r → 3 * n + 3 ≤ length l → log_put l n p e ≡ overlay l (3 * n) (three_bytes (packed r))
unfolding log_put overlay three_bytes
put_record l n p e r w h =
    let q = word_packed (columns_of p e r w) in
    test_false (eqb e.kind 0) l _ (ne_eqb e.kind 0 (λ z. let k = kind_number_lem r.kind in let q = w.kind in omega arith))
    ∙ put_bytes l n _ (packed r) q.0 q.1 h

pub put_none : (l : List ℕ) (n p : ℕ) (e : Entry) → e.kind ≡ 0 → (log_put l n p e ≡ l) × (records_after n e ≡ n)
unfolding log_put records_after
put_none l n p e h = (test_true (eqb e.kind 0) _ _ (eq-eqb e.kind 0 h), test_true (eqb e.kind 0) _ _ (eq-eqb e.kind 0 h))

pub record_counts : (n p : ℕ) (e : Entry) (r : Record) → Written p e r → records_after n e ≡ n + 1
unfolding records_after
record_counts n p e r w = test_false (eqb e.kind 0) _ _ (ne_eqb e.kind 0 (λ z. let k = kind_number_lem r.kind in let q = w.kind in omega arith))

-- an entry and the records after it
pub put_logged : (l : List ℕ) (n p : ℕ) (e : Entry) (r : Option Record) (L : List Record) → Entered p e r → 3 * n + 3 ≤ length l
    → (overlay (log_put l n p e) (3 * records_after n e) (bytes_of L) ≡ overlay l (3 * n) (bytes_of (logged r L))) ×
    (records_after n e + length L ≡ n + length (logged r L))
unfolding logged bytes_of
put_logged l n p e none L w h =
    let q = put_none l n p e w in
    (ap₂ (λ (x : List ℕ) (k : ℕ). overlay x (3 * k) (bytes_of L)) q.0 q.1, ap (λ (k : ℕ). k + length L) q.1)
put_logged l n p e (some r) L w h =
    let c = record_counts n p e r w in (
      ap₂ (λ (x : List ℕ) (k : ℕ). overlay x k (bytes_of L)) (put_record l n p e r w h) (later c)
          ∙ overlay_more l (3 * n) (three_bytes (packed r)) (bytes_of L) (three h),
      (omega arith),
    )
  where
    later : records_after n e ≡ n + 1 → 3 * records_after n e ≡ 3 * n + length (three_bytes (packed r))
    later c = omega arith

    three : 3 * n + 3 ≤ length l → 3 * n + length (three_bytes (packed r)) ≤ length l
    three h = h

-- a record that is the last
pub put_last : (l : List ℕ) (n p : ℕ) (e : Entry) (r : Record) → Written p e r → 3 * n + 3 ≤ length l → log_put l n p e ≡ overlay l (3 * n) (bytes_of (r ∷ []))
unfolding bytes_of
put_last l n p e r w h = put_record l n p e r w h ∙ ap (overlay l (3 * n)) (sym (append-nil (three_bytes (packed r))))

pub log_length : (l : List ℕ) (n p : ℕ) (e : Entry) → length (log_put l n p e) ≡ length l
unfolding log_put
log_length l n p e = let w = word_of e.kind p e.object e.field e.value in by (eqb e.kind 0) (w / 65536 % 256) (w / 256 % 256) (w % 256)
  where
    by : (t : Bool) (x y z : ℕ) → length (cond t l (set (set (set l (n * 3) x) (n * 3 + 1) y) (n * 3 + 2) z)) ≡ length l
    by true x y z = refl
    by false x y z = length-set (set (set l (n * 3) x) (n * 3 + 1) y) (n * 3 + 2) z ∙ length-set (set l (n * 3) x) (n * 3 + 1) y ∙ length-set l (n * 3) x

pub count_grows : (n p : ℕ) (e : Entry) (r : Option Record) → Entered p e r → records_after n e ≤ n + 1
count_grows n p e none w = let q = (put_none [] n p e w).1 in omega arith
count_grows n p e (some r) w = let q = record_counts n p e r w in omega arith
