-- Rows of eight clocks. No reader of the entries' promises needs it. Assumes nothing.
use Rattle.std.specs.Prelude.{ℕ, zero, suc, ◌<◌, max, min, ◌≡◌, Bool, false, ◌||◌, List, [], ltb, length, get_or}

-- a row: eight clocks
abbrev pub Row : Type 0
Row = List ℕ

-- the clock of thread u in a row
abbrev pub clock_of : Row → ℕ → ℕ
clock_of r u = get_or r u 0

-- all its clocks are below 32,768: as signed numbers of 16 bits they are the same
abbrev pub Low : Row → Type 0
Low r = (u : ℕ) → clock_of r u < 32768

-- a row raised by what it is told
pub record Raised (row told r : Row) : Type 0 where
  pub wide : length r ≡ 8
  pub clocks_are : (u : ℕ) → u < 8 → clock_of r u ≡ max (clock_of row u) (clock_of told u)

-- a row raised by what it is told, up to a clock
pub record RaisedTo (most : ℕ) (row told r : Row) : Type 0 where
  pub wide : length r ≡ 8
  pub clocks_are : (u : ℕ) → u < 8 → clock_of r u ≡ max (clock_of row u) (min (clock_of told u) most)

-- what stands past the end of a list of rows
abbrev pub no_row : Row
no_row = []

-- of the first n clocks of a row, one is lower than that of another
unfoldable pub lower_of : ℕ → Row → Row → Bool
lower_of zero own heard = false
lower_of (suc n) own heard = lower_of n own heard || ltb (clock_of own n) (clock_of heard n)

-- row q of a table of rows
abbrev pub row_at : List Row → ℕ → Row
row_at rows q = get_or rows q no_row
