-- The kind and the thread of a record by its first byte, its place by all three. Assumes nothing.
use Prim.Native.Nat.{ℕ, ◌+◌, ◌*◌, ◌/◌, ◌%◌, ◌<◌}
use native.Mathlib.Omega.{arith}
use mathlib.Core.Path.{◌≡◌, sym, ap, ◌∙◌}
use mathlib.Core.List.{List}
use lib.ListN.{get_or}
use Rattle.format.specs.Bits.{bits_at}
use Rattle.format.proofs.BitLaws.{bits_add, first_of, field_of, byte_at}
use Rattle.log_records.specs.Record.{Record}
use Rattle.log_records.specs.Packed.{kind_at}
use Rattle.log_records.proofs.RoundTrip.{record_fields, kind_bits, word24}
use Rattle.log_places.specs.Inner.Places.{thread_at, place_at}

-- the last bit of a byte, a second byte, and the first bit of a third
ten_bits : (x y z : ℕ) → y < 256 → z < 256 → ((x * 256 + y) * 256 + z) / 128 % 1024 ≡ x % 2 * 512 + y * 2 + z / 128
ten_bits x y z h k =
    let high : ((x * 256 + y) * 256 + z) / 128 ≡ x * 512 + y * 2 + z / 128 = omega arith in
    let last : x ≡ 2 * (x / 2) + x % 2 = omega arith in
    let whole : ((x * 256 + y) * 256 + z) / 128 ≡ 1024 * (x / 2) + (x % 2 * 512 + y * 2 + z / 128) = omega arith in
    rw whole (omega arith)

module _ (b : List ℕ) (i : ℕ) (first_below : get_or b (3 * i) 0 < 256) where
  first_byte : bits_at b (24 * i) 8 ≡ get_or b (3 * i) 0
  first_byte = let place : 24 * i ≡ 3 * i * 8 = omega arith in rw place (byte_at b (3 * i) first_below)

  pub kind_of_byte : kind_at b i ≡ get_or b (3 * i) 0 / 16
  kind_of_byte = kind_bits b i ∙ first_of b (24 * i) 4 4 ∙ ap (λ (x : ℕ). x / 16) first_byte

  pub thread_of_byte : thread_at b i ≡ get_or b (3 * i) 0 / 2 % 8
  thread_of_byte = ap (λ (r : Record). r.thread) (record_fields b i) ∙ field_of b (24 * i) 4 3 1 ∙ ap (λ (x : ℕ). x / 2 % 8) first_byte

  -- object and field, ten bits
  place_bits : place_at b i ≡ bits_at b (24 * i) 24 / 128 % 1024
  place_bits = fields ∙ sym (bits_add b (24 * i + 7) 5 5) ∙ field_of b (24 * i) 7 10 7
    where
      fields : place_at b i ≡ bits_at b (24 * i + 7) 5 * 32 + bits_at b (24 * i + 7 + 5) 5
      fields =
          let place : 24 * i + 7 + 5 ≡ 24 * i + 12 = omega arith in
          rw place (ap (λ (r : Record). r.object * 32 + r.field) (record_fields b i))

  pub place_of_bytes : get_or b (3 * i + 1) 0 < 256 → get_or b (3 * i + 2) 0 < 256
      → place_at b i ≡ get_or b (3 * i) 0 % 2 * 512 + get_or b (3 * i + 1) 0 * 2 + get_or b (3 * i + 2) 0 / 128
  place_of_bytes second_below third-below =
      place_bits ∙ ap (λ (x : ℕ). x / 128 % 1024) (word24 b i first_below second_below third-below)
      ∙ ten_bits (get_or b (3 * i) 0) (get_or b (3 * i + 1) 0) (get_or b (3 * i + 2) 0) second_below third-below
