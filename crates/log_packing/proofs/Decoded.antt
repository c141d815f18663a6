-- The columns of a record as quotients and remainders of its 24 bits. Assumes nothing.
use Prim.Native.Nat.{ℕ, ◌*◌, ◌/◌, ◌%◌}
use mathlib.Core.Path.{◌≡◌, ap, ◌∙◌}
use mathlib.Core.List.{List}
use Rattle.format.specs.Bits.{bits_at}
use Rattle.format.proofs.BitLaws.{first_of, field_of}
use Rattle.log_records.specs.Record.{Record}
use Rattle.log_records.specs.Packed.{kind_of, kind_at, spare_at, record_at}
use Rattle.log_records.proofs.RoundTrip.{record_fields, kind_bits, spare_bits}

module _ (b : List ℕ) (i : ℕ) where
  pub kind_of_word : kind_at b i ≡ bits_at b (24 * i) 24 / 1048576
  kind_of_word = kind_bits b i ∙ first_of b (24 * i) 4 20

  pub spare_of_word : spare_at b i ≡ bits_at b (24 * i) 24 / 1 % 4
  spare_of_word = spare_bits b i ∙ field_of b (24 * i) 22 2 0

  pub thread_of_word : (record_at b i).thread ≡ bits_at b (24 * i) 24 / 131072 % 8
  thread_of_word = ap (λ (r : Record). r.thread) (record_fields b i) ∙ field_of b (24 * i) 4 3 17

  pub object_of_word : (record_at b i).object ≡ bits_at b (24 * i) 24 / 4096 % 32
  object_of_word = ap (λ (r : Record). r.object) (record_fields b i) ∙ field_of b (24 * i) 7 5 12

  pub field_of_word : (record_at b i).field ≡ bits_at b (24 * i) 24 / 128 % 32
  field_of_word = ap (λ (r : Record). r.field) (record_fields b i) ∙ field_of b (24 * i) 12 5 7

  pub value_of_word : (record_at b i).value ≡ bits_at b (24 * i) 24 / 4 % 32
  value_of_word = ap (λ (r : Record). r.value) (record_fields b i) ∙ field_of b (24 * i) 17 5 2

  pub kind_is_kind : (record_at b i).kind ≡ kind_of (kind_at b i)
  kind_is_kind = ap (λ (r : Record). r.kind) (record_fields b i)
