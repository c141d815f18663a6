-- The records that a text is about are those of the log: one record at an index, one last write, one text. Assumes nothing.
use Prim.Native.Nat.{ℕ, ◌/◌, ◌<◌}
use native.Mathlib.Omega.{arith}
use mathlib.Core.Path.{◌≡◌, sym, ap, ◌∙◌, subst as along}
use mathlib.Core.List.{List, ◌++◌}
use mathlib.Core.Option.{some}
use lib.ListN.{length}
use Rattle.format.specs.Version.{Version}
use Rattle.log_records.specs.Record.{Record}
use Rattle.log_records.specs.Packed.{record_at, record_count, log_of}
use Rattle.log_records.proofs.RoundTrip.{log_element, length_log}
use Rattle.log_order.specs.Chains.{At, LastWrite, Unordered}
use Rattle.log_order.proofs.Past.{at_within}
use Rattle.log_packing.specs.declared.Columns.{Columns}
use Rattle.log_packing.specs.Inner.Columns.{ReadAt}
use Rattle.text_record_lines.specs.Inner.Columns.{record_of}
use Rattle.log_last_write.specs.Inner.LastWrite.{IsLast, HasLast}
use Rattle.text_race_lines.specs.Lines.{lack_line, apart_line, lack_lines, unordered_lines}

-- one record at an index
pub at_once : (L : List Record) (i : ℕ) {r s : Record} → At L i r → At L i s → r ≡ s
at_once L i {r} {s} p q = let e : some r ≡ some s = sym p ∙ q in cc

-- one last write
pub last_once : {L : List Record} {j o f i k : ℕ} → LastWrite L j o f i → LastWrite L j o f k → i ≡ k
last_once {L} {j} {o} {f} {i} {k} a b =
    let p = a.latest k b.write_record b.at_i b.writes b.before in
    let q = b.latest i a.write_record a.at_i a.writes a.before in
    omega arith

-- columns that were read are the record there
pub columns_are : {b : List ℕ} {i : ℕ} {r : Columns} → ReadAt b i r → record_of r ≡ record_at b i
unfolding record_at
columns_are h = simp (h.kind_is, h.thread_is, h.object_is, h.field_is, h.value_is)

-- the record of a log in bytes at an index
pub record_here : (b : List ℕ) (i : ℕ) → i < length b / 3 → At (log_of b) i (record_at b i)
unfolding record_count
record_here b i h = log_element b i h

module _ (b : List ℕ) (j i : ℕ) (w x : Columns) (last : IsLast b j i) (inside : j < length b / 3) (W : ReadAt b i w) (X : ReadAt b j x) where
  -- what is written of the last write is what is said of record j
  pub unordered_text : (v : Version) (u : Unordered v (log_of b) j) → lack_line i (record_of w) (record_of x) ++ apart_line i j ≡ unordered_lines u
  unfolding unordered_lines lack_lines
  unordered_text v u =
      let a : u.access ≡ record_at b j = at_once (log_of b) j u.at_j (record_here b j inside) in
      let l : LastWrite (log_of b) j (record_at b j).object (record_at b j).field u.last = along
      (λ (r : Record). LastWrite (log_of b) j r.object r.field u.last) a u.is_last in
      let k : i ≡ u.last = last_once last l in
      let t = last.before in
      let r : record_at b i ≡ u.is_last.write_record = at_once (log_of b) i (record_here b i (omega arith))
      (along (λ (n : ℕ). At (log_of b) n u.is_last.write_record) (sym k) u.is_last.at_i) in
      ap (λ (y : Record). lack_lines i y j (record_of x)) (columns_are W ∙ r)
      ∙ ap (λ (y : Record). lack_lines i u.is_last.write_record j y) (columns_are X ∙ sym a)
      ∙ ap (λ (n : ℕ). lack_lines n u.is_last.write_record j u.access) k

-- one text: whatever shows that nothing orders a record after the last write
pub unordered_once : {v w : Version} {L : List Record} {j : ℕ} (u : Unordered v L j) (t : Unordered w L j) → unordered_lines u ≡ unordered_lines t
unfolding unordered_lines
unordered_once {v} {w} {L} {j} u t =
    let a : u.access ≡ t.access = at_once L j u.at_j t.at_j in
    let l : LastWrite L j t.access.object t.access.field u.last = along (λ (r : Record). LastWrite L j r.object r.field u.last) a
    u.is_last in
    let k : u.last ≡ t.last = last_once l t.is_last in
    let r : u.is_last.write_record ≡ t.is_last.write_record = at_once L t.last
    (along (λ (n : ℕ). At L n u.is_last.write_record) k u.is_last.at_i) t.is_last.at_i in
    ap (λ (y : Record). lack_lines u.last y j u.access) r
    ∙ ap (λ (y : Record). lack_lines u.last t.is_last.write_record j y) a
    ∙ ap (λ (n : ℕ). lack_lines n t.is_last.write_record j t.access) k

-- what no chain leads to from the last write has a last write
pub has_last : {v : Version} (b : List ℕ) (j : ℕ) → Unordered v (log_of b) j → HasLast b j
has_last b j u =
    let within = at_within (log_of b) j u.access u.at_j in
    let inside : j < length b / 3 = omega (arith, within, length_log b) in
    let a : u.access ≡ record_at b j = at_once (log_of b) j u.at_j (record_here b j inside) in
    record {
      inside = inside;
      index = u.last;
      is_last = along (λ (r : Record). LastWrite (log_of b) j r.object r.field u.last) a u.is_last;
    }

-- the same of one log under two names
pub unordered_same : {v w : Version} {L M : List Record} {j : ℕ} → L ≡ M → (u : Unordered v L j) (t : Unordered w M j) → unordered_lines u ≡ unordered_lines t
unordered_same {v} {w} {L} {M} {j} e u = along (λ (N : List Record). (t : Unordered w N j) → unordered_lines u ≡ unordered_lines t) e (λ t. unordered_once u t)
