-- The search for the last write: no later record before the access writes its field. Assumes nothing.
use Prim.Native.Nat.{ℕ, suc, ◌/◌, ◌<◌}
use native.Mathlib.Omega.{arith}
use native.Mathlib.Decide.{ℕ_discrete}
use mathlib.Core.Path.{◌≡◌, refl, sym, ap, ◌∙◌}
use mathlib.Core.Bool.{Bool, true, false, ◌&&◌, true≢false}
use mathlib.Core.List.{List}
use mathlib.Core.Option.{some}
use lib.Dec.{eqb}
use lib.ListN.{length, get_elem?}
use borrow.Author.Tests.{eq-eqb, eqb-true}
use Rattle.log_records.specs.Record.{Record}
use Rattle.log_records.specs.Packed.{record_at, record_count, log_of}
use Rattle.log_records.proofs.RoundTrip.{log_element}
use Rattle.log_order.specs.Chains.{At, Writes}
use Rattle.log_packing.specs.Inner.Columns.{ReadAt}
use Rattle.log_packing.specs.declared.Columns.{Columns}
use Rattle.log_last_write.specs.Inner.LastWrite.{IsLast, HasLast}
use Rattle.log_last_write.proofs.WriteTests.{is_write, write→, write_here}

-- every write of that field before record j comes before `index`
abbrev pub Earlier : List ℕ → ℕ → ℕ → Type 0
Earlier b j index = (m : ℕ) (w : Record) → At (log_of b) m w → Writes w (record_at b j).object (record_at b j).field → m < j → m < index

both : (x y : Bool) → (x && y) ≡ true → (x ≡ true) × (y ≡ true)
both true y h = (refl, h)
both false y h = absurd (true≢false (sym h))

module _ {b : List ℕ} {j i : ℕ} {a c : Columns} (A : ReadAt b j a) (R : ReadAt b i c) (inside : i < length b / 3) where
  -- the code's test
  abbrev pub test : Bool
  test = (eqb c.kind 3 && eqb c.object a.object) && eqb c.field a.field

  here : At (log_of b) i (record_at b i)
  unfolding record_count
  here = log_element b i inside

  -- it is passed by
  pub passed : test ≡ false → Earlier b j (suc i) → Earlier b j i
  passed t h m w there writes less = go (ℕ_discrete m i) (h m w there writes less)
    where
      go : Dec (m ≡ i) → m < suc i → m < i
      go (no n) q = omega (arith, n)
      go (yes e) q =
          let x : some w ≡ some (record_at b i) = sym there ∙ ap (get_elem? (log_of b)) e ∙ here in
          let y : w ≡ record_at b i = cc in
          let k : eqb c.kind 3 ≡ true = write_here R ∙ ap (λ (z : Record). is_write z.kind) (sym y) ∙ ap is_write writes.is_write in
          let o : eqb c.object a.object ≡ true =
          eq-eqb c.object a.object (R.object_is ∙ ap (λ (z : Record). z.object) (sym y) ∙ writes.same_object ∙ sym A.object_is) in
          let f : eqb c.field a.field ≡ true =
          eq-eqb c.field a.field (R.field_is ∙ ap (λ (z : Record). z.field) (sym y) ∙ writes.same_field ∙ sym A.field_is) in
          absurd (true≢false (rw (k, o, f) at t))

  -- or it is the last
  pub found : test ≡ true → i < j → Earlier b j (suc i) → IsLast b j i
  found t less h =
      let d = both (eqb c.kind 3 && eqb c.object a.object) (eqb c.field a.field) t in
      let e = both (eqb c.kind 3) (eqb c.object a.object) d.0 in
      record {
        write_record = record_at b i;
        at_i = here;
        writes = record {
          is_write = write→ (record_at b i).kind (sym (write_here R) ∙ e.0);
          same_object = sym R.object_is ∙ eqb-true c.object a.object e.1 ∙ A.object_is;
          same_field = sym R.field_is ∙ eqb-true c.field a.field d.1 ∙ A.field_is;
        };
        before = less;
        latest = λ m w there writes q. let z = h m w there writes q in omega arith;
      }

-- where there is one, the search does not come to its end
pub not_none : {b : List ℕ} {j : ℕ} → HasLast b j → Earlier b j 0 → ⊥
not_none {b} {j} L h = let w = L.is_last in let z = h L.index w.write_record w.at_i w.writes w.before in omega arith
