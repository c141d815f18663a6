-- Stores to the table of rows. No reader of the entries' promises needs it. Assumes nothing.
use Rattle.std.specs.Prelude.{ℕ, ◌+◌, ◌<◌, max, min, ◌≡◌, Bool, true, false, cond, List, eqb, length}
use Rattle.log_clocks.specs.Inner.Rows.{Row, Low, clock_of, row_at, lower_of}
use Rattle.log_rows.specs.Inner.Rows.{held_row, kept_row}

-- every row has eight clocks, all below 32,768
pub record Sound (rows : List Row) : Type 0 where
  pub wide : (q : ℕ) → q < length rows → length (row_at rows q) ≡ 8
  pub low : (q : ℕ) → Low (row_at rows q)

-- the clock of thread u in row q
abbrev pub clock_at : List Row → ℕ → ℕ → ℕ
clock_at rows q u = clock_of (row_at rows q) u

-- a table after a store to row q: as long, as sound, with its other rows
pub record Stored (q : ℕ) (rows after : List Row) : Type 0 where
  pub long : length after ≡ length rows
  pub sound : Sound after
  pub others : (p : ℕ) → (p ≡ q → ⊥) → row_at after p ≡ row_at rows p

-- row q of the table keeps a record of thread t
pub record Keeps (q t time : ℕ) (rows after : List Row) : Type 0 where
  pub stored : Stored q rows after
  pub clocks_are : (u : ℕ) → u < 8 → clock_at after q u ≡ cond (eqb t u) time (clock_at rows q u)

-- row q is told what row p knows of the records below `time`
pub record Told (q p time : ℕ) (rows after : List Row) : Type 0 where
  pub stored : Stored q rows after
  pub clocks_are : (u : ℕ) → u < 8 → clock_at after q u ≡ max (clock_at rows q u) (min (clock_at rows p u) time)

-- row q hears all that row p knows
pub record Hears (q p : ℕ) (rows after : List Row) : Type 0 where
  pub stored : Stored q rows after
  pub clocks_are : (u : ℕ) → u < 8 → clock_at after q u ≡ max (clock_at rows q u) (clock_at rows p u)

-- the rows of the first n threads have the highest number for their own clocks
pub record Started (n : ℕ) (rows after : List Row) : Type 0 where
  pub long : length after ≡ length rows
  pub sound : Sound after
  pub own : (t : ℕ) → t < n → clock_at after t t ≡ 32767
  pub others : (q u : ℕ) → (q < n → q ≡ u → ⊥) → clock_at after q u ≡ clock_at rows q u

-- a plain access of this kind by thread t at a place whose rows begin at `at`: it has not heard all that it must have heard, or it is kept
pub data Accessed (k t at time : ℕ) (rows : List Row) : List Row → Bool → Type 0 where
  late : lower_of 8 (row_at rows t) (row_at rows (held_row k at)) ≡ true → Accessed k t at time rows rows true
  kept : {between after : List Row} → lower_of 8 (row_at rows t) (row_at rows (held_row k at)) ≡ false → Keeps (at + 1) t time rows between
      → Keeps (kept_row k at) t time between after → Accessed k t at time rows after false
