-- The table that the pass is lent. No reader of the entries' promises needs it. Assumes nothing.
use Rattle.std.specs.Prelude.{ℕ, ◌+◌, ◌<◌, ◌≤◌, ◌≡◌, Bool, true, false, List, ◌⊎◌, length}
use Rattle.log_clocks.specs.Inner.Rows.{Row}
use Rattle.log_rows.specs.Inner.Rows.{place_row}
use Rattle.log_row_stores.specs.Inner.Table.{Sound, clock_at}

-- rows for so many places, or for all 1,024 that there are, all clocks 0
pub record Clear (places : ℕ) (rows : List Row) : Type 0 where
  pub most : (places ≤ 255) ⊎ (places ≡ 1024)
  pub room : place_row places + 2 < length rows
  pub sound : Sound rows
  pub zero : (q u : ℕ) → clock_at rows q u ≡ 0

-- how many places each of the two large tables is for
abbrev pub large_table : Bool → ℕ
large_table true = 1024
large_table false = 255
