-- Tidy records are read back from their bytes. Assumes nothing.
use Prim.Native.Nat.{ℕ, zero, suc, ◌+◌, ◌*◌, ◌/◌, ◌%◌, ◌≤◌, ◌<◌}
use native.Mathlib.Nat.{add-zero, zero-add}
use native.Mathlib.Omega.{arith}
use mathlib.Core.Path.{◌≡◌, refl, sym, ap, ◌∙◌, subst}
use mathlib.Core.List.{List, [], ◌∷◌}
use mathlib.Core.Option.{some, none, none-ne-some, some-injective}
use lib.ListN.{length, get_or, get_elem?}
use Rattle.format.specs.Bits.{bits_at}
use Rattle.format.proofs.BitLaws.{field_of, first_of, byte_at, byte_more}
use Rattle.log_records.specs.Record.{kind_number, Record, entry}
use Rattle.log_records.specs.Packed.{packed, bytes_of, kind_of, kind_at, spare_at, record_at, record_count, records_from, log_of}
use Rattle.log_records.proofs.KindNumbers.{kind_number_lem, kind_back}
use Rattle.log_records.proofs.Tidy.{Tidy, AllTidy, tidy_at}

-- ---- the bytes of a log

-- each record has three bytes
pub length_bytes : (L : List Record) → length (bytes_of L) ≡ 3 * length L
unfolding bytes_of
length_bytes [] = refl
length_bytes (r ∷ L) = omega (arith, length_bytes L)

-- a tidy record has 24 bits
pub packed_below : (r : Record) → Tidy r → packed r < 16777216
unfolding packed
packed_below r h = omega (arith, kind_number_lem r.kind)

-- each byte is a byte
pub byte_below : (L : List Record) → AllTidy L → (j : ℕ) → get_or (bytes_of L) j 0 < 256
unfolding bytes_of
byte_below [] h j = omega arith
byte_below (r ∷ L) h zero = omega (arith, packed_below r h.0)
byte_below (r ∷ L) h (suc zero) = omega arith
byte_below (r ∷ L) h (suc (suc zero)) = omega arith
byte_below (r ∷ L) h (suc (suc (suc j))) = byte_below L h.1 j

-- the 24 bits of three bytes
pub word24 : (b : List ℕ) (i : ℕ) → get_or b (3 * i) 0 < 256 → get_or b (3 * i + 1) 0 < 256 → get_or b (3 * i + 2) 0 < 256
    → bits_at b (24 * i) 24 ≡ (get_or b (3 * i) 0 * 256 + get_or b (3 * i + 1) 0) * 256 + get_or b (3 * i + 2) 0
word24 b i x y z = let place : 24 * i ≡ 3 * i * 8 = omega arith in rw place (byte_more b (3 * i) 2 _ z (byte_more b (3 * i) 1 _ y (byte_at b (3 * i) x)))

-- the three bytes of a record stand as record i of some bytes
pub record Placed (b : List ℕ) (i : ℕ) (r : Record) : Type 0 where
  pub high : get_or b (3 * i) 0 ≡ packed r / 65536
  pub middle : get_or b (3 * i + 1) 0 ≡ packed r / 256 % 256
  pub low : get_or b (3 * i + 2) 0 ≡ packed r % 256

-- they are the record's 24 bits
pub placed_word : (b : List ℕ) (i : ℕ) (r : Record) → Tidy r → Placed b i r → bits_at b (24 * i) 24 ≡ packed r
placed_word b i r h p =
    let below : packed r < 16777216 = packed_below r h in
    word24 b i (omega arith) (omega arith) (omega arith) ∙ omega arith

-- the bytes after the first record's are those of the other records
next_byte : (r : Record) (L : List Record) (j k : ℕ) → j ≡ k + 3 → get_or (bytes_of (r ∷ L)) j 0 ≡ get_or (bytes_of L) k 0
unfolding bytes_of
next_byte r L j k h = let e : j ≡ suc (suc (suc k)) = omega arith in rw e

first_placed : (r : Record) (L : List Record) → Placed (bytes_of (r ∷ L)) 0 r
unfolding bytes_of
first_placed r L = record { high = refl; middle = refl; low = refl }

-- each record of a log stands at its place in the log's bytes
pub bytes_placed : (L : List Record) (i : ℕ) (r : Record) → get_elem? L i ≡ some r → Placed (bytes_of L) i r
bytes_placed [] i r e = absurd (none-ne-some r e)
bytes_placed (s ∷ L) zero r e = subst (Placed (bytes_of (s ∷ L)) 0) (some-injective s r e) (first_placed s L)
bytes_placed (s ∷ L) (suc i) r e =
    let p : Placed (bytes_of L) i r = bytes_placed L i r e in
    record {
      high = next_byte s L (3 * suc i) (3 * i) (omega arith) ∙ p.high;
      middle = next_byte s L (3 * suc i + 1) (3 * i + 1) (omega arith) ∙ p.middle;
      low = next_byte s L (3 * suc i + 2) (3 * i + 2) (omega arith) ∙ p.low;
    }

-- ---- a record read back from its three bytes

pub record_fields : (b : List ℕ) (i : ℕ)
    → record_at b i ≡ entry (kind_of (kind_at b i)) (bits_at b (24 * i + 4) 3) (bits_at b (24 * i + 7) 5) (bits_at b (24 * i + 12) 5) (bits_at b (24 * i + 17) 5)
unfolding record_at
record_fields b i = refl

pub kind_bits : (b : List ℕ) (i : ℕ) → kind_at b i ≡ bits_at b (24 * i) 4
unfolding kind_at
kind_bits b i = refl

pub spare_bits : (b : List ℕ) (i : ℕ) → spare_at b i ≡ bits_at b (24 * i + 22) 2
unfolding spare_at
spare_bits b i = refl

module _ (b : List ℕ) (i : ℕ) (r : Record) (h : Tidy r) (p : Placed b i r) where
  word : bits_at b (24 * i) 24 ≡ packed r
  word = placed_word b i r h p

  pub kind_read : kind_at b i ≡ kind_number r.kind
  unfolding packed
  kind_read = kind_bits b i ∙ first_of b (24 * i) 4 20 ∙ omega (arith, word, kind_number_lem r.kind)

  pub spare_read : spare_at b i ≡ 0
  unfolding packed
  spare_read = spare_bits b i ∙ field_of b (24 * i) 22 2 0 ∙ omega (arith, word)

  thread_read : bits_at b (24 * i + 4) 3 ≡ r.thread
  unfolding packed
  thread_read = field_of b (24 * i) 4 3 17 ∙ omega (arith, word)

  object_read : bits_at b (24 * i + 7) 5 ≡ r.object
  unfolding packed
  object_read = field_of b (24 * i) 7 5 12 ∙ omega (arith, word)

  field_read : bits_at b (24 * i + 12) 5 ≡ r.field
  unfolding packed
  field_read = field_of b (24 * i) 12 5 7 ∙ omega (arith, word)

  value_read : bits_at b (24 * i + 17) 5 ≡ r.value
  unfolding packed
  value_read = field_of b (24 * i) 17 5 2 ∙ omega (arith, word)

  -- a record is read back from its three bytes
  pub packed_back : record_at b i ≡ r
  packed_back =
      record_fields b i
      ∙ λ j. entry ((ap kind_of kind_read ∙ kind_back r.kind) j) (thread_read j) (object_read j) (field_read j) (value_read j)

-- record i of a log in bytes is record i of the log
pub record_back : (L : List Record) → AllTidy L → (i : ℕ) (r : Record) → get_elem? L i ≡ some r → record_at (bytes_of L) i ≡ r
record_back L h i r e = packed_back (bytes_of L) i r (tidy_at L h i r e) (bytes_placed L i r e)

-- ---- the log that bytes are

records_length : (b : List ℕ) (i n : ℕ) → length (records_from b i n) ≡ n
unfolding records_from
records_length b i zero = refl
records_length b i (suc n) = ap suc (records_length b (suc i) n)

records_element : (b : List ℕ) (i n k : ℕ) → k < n → get_elem? (records_from b i n) k ≡ some (record_at b (i + k))
unfolding records_from
records_element b i zero k h = absurd (omega arith)
records_element b i (suc n) zero h = ap (λ (j : ℕ). some (record_at b j)) (sym (add-zero i))
records_element b i (suc n) (suc k) h =
    let e : suc i + k ≡ i + suc k = omega arith in records_element b (suc i) n k (omega arith) ∙ ap (λ (j : ℕ). some (record_at b j)) e

records_past : (b : List ℕ) (i n k : ℕ) → n ≤ k → get_elem? (records_from b i n) k ≡ none
unfolding records_from
records_past b i zero k h = refl
records_past b i (suc n) zero h = absurd (omega arith)
records_past b i (suc n) (suc k) h = records_past b (suc i) n k (omega arith)

records_back : (b : List ℕ) (i : ℕ) (L : List Record) → ((k : ℕ) (r : Record) → get_elem? L k ≡ some r → record_at b (i + k) ≡ r) → records_from b i (length L) ≡ L
unfolding records_from
records_back b i [] f = refl
records_back b i (r ∷ L) f =
    let head : record_at b i ≡ r = ap (record_at b) (sym (add-zero i)) ∙ f 0 r refl in
    let tail : records_from b (suc i) (length L) ≡ L =
    records_back b (suc i) L (λ k s e. let same : suc i + k ≡ i + suc k = omega arith in ap (record_at b) same ∙ f (suc k) s e) in
    λ j. head j ∷ tail j

-- a log has as many records as its bytes have threes
pub length_log : (b : List ℕ) → length (log_of b) ≡ length b / 3
unfolding log_of
length_log b = records_length b 0 (length b / 3)

pub count_log : (b : List ℕ) → length (log_of b) ≡ record_count b
unfolding record_count
count_log b = length_log b

-- record i of the log is record i of the bytes
pub log_element : (b : List ℕ) (i : ℕ) → i < record_count b → get_elem? (log_of b) i ≡ some (record_at b i)
unfolding log_of
log_element b i h = records_element b 0 (record_count b) i h ∙ ap (λ (j : ℕ). some (record_at b j)) (zero-add i)

-- past the records there is none
pub log_past : (b : List ℕ) (i : ℕ) → record_count b ≤ i → get_elem? (log_of b) i ≡ none
unfolding log_of
log_past b i h = records_past b 0 (record_count b) i h

pub count_bytes : (L : List Record) → record_count (bytes_of L) ≡ length L
unfolding record_count
count_bytes L = omega (arith, length_bytes L)

-- a log is read back from its bytes
pub log_of_bytes_of : (L : List Record) → AllTidy L → log_of (bytes_of L) ≡ L
unfolding log_of
log_of_bytes_of L h =
    ap (records_from (bytes_of L) 0) (count_bytes L)
    ∙ records_back (bytes_of L) 0 L (λ k r e. ap (record_at (bytes_of L)) (zero-add k) ∙ record_back L h k r e)
