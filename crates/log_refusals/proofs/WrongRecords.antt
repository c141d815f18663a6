-- What the tests of refusal 12 mean. Assumes nothing.
use Prim.Native.Nat.{ℕ, ◌+◌, ◌*◌, ◌/◌, ◌<◌}
use native.Mathlib.Omega.{arith}
use native.Mathlib.Numerals.{add-one}
use mathlib.Core.Path.{◌≡◌, sym, ◌∙◌}
use mathlib.Core.Bool.{Bool, ◌||◌, not}
use mathlib.Core.List.{List}
use lib.Bits.{bit_and}
use lib.Dec.{eqb, ltb}
use lib.ListN.{length, get_or}
use Rattle.log_records.specs.Packed.{record_count}
use Rattle.log_records.specs.Refusals.{wrong_record}
use Rattle.log_records.proofs.Accepted.{wrong_record_lem}
use Rattle.log_packing.specs.Inner.Columns.{ReadAt}
use Rattle.log_packing.specs.declared.Columns.{Columns}
use Rattle.log_packing.proofs.Decoded.{kind_is_kind, spare_of_word}
use Rattle.log_limits.specs.Inner.Limits.{least_bits, zero_bits}
use Rattle.log_limits.proofs.Tables.{by_columns, by_tables_lem}

module _ (b : List ℕ) (i : ℕ) (r : Columns) (R : ReadAt b i r) where
  pub spare_below : r.spare < 4
  spare_below = omega (arith, R.spare_is, spare_of_word b i)

  -- by the tables as they are lent
  pub wrong_is : (A Z : List ℕ) → A ≡ least_bits (eqb (i + 1) (length b / 3)) → Z ≡ zero_bits
      → (ltb ((r.field * 32 + r.value) * 4 + r.spare) (get_or A r.kind 0)
      || not (eqb (bit_and ((r.field * 32 + r.value) * 4 + r.spare) (get_or Z r.kind 0)) 0))
      ≡ wrong_record b i
  unfolding record_count
  wrong_is A Z a z =
      let N = R.narrow in
      let last : Bool = eqb (i + 1) (length b / 3) in
      let defined : wrong_record b i
      ≡ (by_columns last r.kind r.field r.value || not (eqb r.spare 0)) =
      wrong_record_lem b i ∙ rw (kind_is_kind b i, ← R.kind_is, ← R.field_is, ← R.value_is, ← R.spare_is, ← add-one i) in
      rw (a, z) (by_tables_lem last r.kind r.field r.value r.spare N.kind_below N.field_below N.value_below spare_below ∙ sym defined)
