-- What a record does to the table of rows. No reader of the entries' promises needs it. Assumes nothing.
use Rattle.std.specs.Prelude.{ℕ, ◌+◌, ◌/◌, ◌<◌, ◌≤◌, ◌≡◌, Bool, true, false, List, ◌⊎◌, length, get_or, Result, Ok, Err}
use Rattle.log_records.specs.Packed.{kind_at, record_at}
use Rattle.log_clocks.specs.Inner.Rows.{Row}
use Rattle.log_places.specs.declared.places.NoneLeft.{NoneLeft}
use Rattle.log_places.specs.Inner.Places.{thread_at, place_at, numbers_of, Numbered}
use Rattle.log_rows.specs.Inner.Rows.{place_row, is_access, passes}
use Rattle.log_row_stores.specs.Inner.Table.{Sound, Hears, Told, Accessed}

-- the field of record i of a log in bytes
abbrev pub field_at : List ℕ → ℕ → ℕ
field_at b i = (record_at b i).field

-- what is known where the place of record i is looked up
pub record Numbers (b : List ℕ) (i : ℕ) (N : List ℕ) : Type 0 where
  pub below : i < length b / 3
  pub long : length N ≡ 1024

-- what is known where record i, of kind k and thread t, is at no place
pub record Elsewhere (b : List ℕ) (i k t time : ℕ) (rows : List Row) : Type 0 where
  pub below : i < length b / 3
  pub thread_below : t < 8
  pub field_below : (k ≡ 8) ⊎ (k ≡ 9) → field_at b i < 8
  pub time_below : time < 32768
  pub sound : Sound rows
  pub room : 8 ≤ length rows

-- what is known where record i comes to the table, which has rows for so many places
pub record Ready (b : List ℕ) (i most : ℕ) (N : List ℕ) (rows : List Row) : Type 0 where
  pub numbers : Numbers b i N
  pub most_below : most ≤ 1024
  pub short : i < 4096
  pub field_below : (kind_at b i ≡ 8) ⊎ (kind_at b i ≡ 9) → field_at b i < 8
  pub numbered : (p : ℕ) → get_or (numbers_of most N) p 0 ≤ most
  pub sound : Sound rows
  pub room : place_row most + 2 < length rows

-- a record of kind k and thread t at a place whose rows begin at `at`, and whether it is an unordered access: a plain access; an acquire or a volatile read
-- hears the place's row, a release or a volatile write tells it
pub data PlacedStep (read write k t at time : ℕ) (rows : List Row) : List Row → Bool → Type 0 where
  accesses : {after : List Row} {d : Bool} → is_access k ≡ true → Accessed k t at time rows after d → PlacedStep read write k t at time rows after d
  hears : {after : List Row} → passes 6 read k ≡ true → Hears t at rows after → PlacedStep read write k t at time rows after false
  tells : {after : List Row} → passes 7 write k ≡ true → Told at t time rows after → PlacedStep read write k t at time rows after false

-- a record at no place: a fork (8) tells the row of the thread that it names, a join (9) is told it; any other does nothing
pub data OtherStep (k t f time : ℕ) (rows : List Row) : List Row → Type 0 where
  forks : {after : List Row} → k ≡ 8 → Told f t time rows after → OtherStep k t f time rows after
  joins : {after : List Row} → k ≡ 9 → Told t f time rows after → OtherStep k t f time rows after
  rests : (k ≡ 8 → ⊥) → (k ≡ 9 → ⊥) → OtherStep k t f time rows rows

-- what record i does, by the kinds of volatile accesses that order something, and whether it is an unordered access, or no number is left for its place
pub data Stepped (b : List ℕ) (i read write most : ℕ) (N : List ℕ) (given : ℕ) (rows : List Row) : List ℕ → ℕ → List Row → Result Bool NoneLeft → Type 0 where
  placed : {N' : List ℕ} {given' n : ℕ} {after : List Row} {d : Bool} → Numbered N given (place_at b i) most N' given' (Ok n)
      → PlacedStep read write (kind_at b i) (thread_at b i) (place_row n) (i + 1) rows after d
      → Stepped b i read write most N given rows N' given' after (Ok d)
  unplaced : {after : List Row} → is_access (kind_at b i) ≡ false → passes 6 read (kind_at b i) ≡ false → passes 7 write (kind_at b i) ≡ false
      → OtherStep (kind_at b i) (thread_at b i) (field_at b i) (i + 1) rows after → Stepped b i read write most N given rows N given after (Ok false)
  none_left : {N' : List ℕ} {given' : ℕ} {e : NoneLeft} → Numbered N given (place_at b i) most N' given' (Err e)
      → Stepped b i read write most N given rows N' given' rows (Err e)
