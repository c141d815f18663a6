-- Records in bytes (document 01, "The log and its order"). Assumes nothing.
use Rattle.std.specs.Prelude.{ℕ, zero, suc, ◌+◌, ◌*◌, ◌-◌, ◌/◌, ◌%◌, List, [], ◌∷◌, ◌++◌, length, get_or}
use Rattle.format.specs.Bits.{bits_at}
use Rattle.log_records.specs.Record.{Kind, new, read, write, readv, writev, acquire, release, fork, join, lacks_read, lacks_write, kind_number, Record}

-- "A record has 24 bits: kind 4, thread 3, object 5, field 5, value 5, spare 2."
unfoldable pub packed : Record → ℕ
packed r = ((((kind_number r.kind * 8 + r.thread) * 32 + r.object) * 32 + r.field) * 32 + r.value) * 4

-- the three bytes of 24 bits, most significant first
unfoldable pub three_bytes : ℕ → List ℕ
three_bytes n = n / 65536 ∷ n / 256 % 256 ∷ n % 256 ∷ []

-- a log's bytes
unfoldable pub bytes_of : List Record → List ℕ
unfolding packed three_bytes
bytes_of [] = []
bytes_of (r ∷ L) = three_bytes (packed r) ++ bytes_of L

-- ---- back again

-- the kinds from 1 on; a number that is no kind's, which refusal 12 names, is read as 1
unfoldable pub kinds : List Kind
kinds = new ∷ read ∷ write ∷ readv ∷ writev ∷ acquire ∷ release ∷ fork ∷ join ∷ lacks_read ∷ lacks_write ∷ []

-- the kind of a number
unfoldable pub kind_of : ℕ → Kind
unfolding kinds
kind_of k = get_or kinds (k - 1) new

-- "kind 4": the first four bits of record i
unfoldable pub kind_at : List ℕ → ℕ → ℕ
unfolding bits_at
kind_at b i = bits_at b (24 * i) 4

-- "spare 2": the last two bits of record i
unfoldable pub spare_at : List ℕ → ℕ → ℕ
unfolding bits_at
spare_at b i = bits_at b (24 * i + 22) 2

-- record i of a log in bytes
unfoldable pub record_at : List ℕ → ℕ → Record
unfolding kind_at kind_of bits_at
record_at b i =
    record {
      kind = kind_of (kind_at b i);
      thread = bits_at b (24 * i + 4) 3;
      object = bits_at b (24 * i + 7) 5;
      field = bits_at b (24 * i + 12) 5;
      value = bits_at b (24 * i + 17) 5;
    }

-- "A record has 24 bits": three bytes
unfoldable pub record_count : List ℕ → ℕ
record_count b = length b / 3

-- n records from record i on
unfoldable pub records_from : List ℕ → ℕ → ℕ → List Record
unfolding record_at
records_from b i zero = []
records_from b i (suc n) = record_at b i ∷ records_from b (suc i) n

-- the log that bytes are
unfoldable pub log_of : List ℕ → List Record
unfolding records_from record_count
log_of b = records_from b 0 (record_count b)
