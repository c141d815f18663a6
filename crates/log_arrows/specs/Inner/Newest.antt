-- The newest record of a thread that has a chain to a record. For inner contracts; no reader of the entries' promise needs it. Assumes nothing.
use Rattle.std.specs.Prelude.{ℕ, suc, ◌<◌, ◌≡◌, List}
use Rattle.format.specs.Version.{Version}
use Rattle.log_records.specs.Record.{Record}
use Rattle.log_order.specs.Chains.{At, Chain}
use Rattle.log_clocks.specs.Inner.Rows.{Row, clock_of, row_at}

-- record m is of thread u and has a chain to record j
pub record Heard (v : Version) (L : List Record) (j u m : ℕ) : Type 0 where
  pub by : Record
  pub at : At L m by
  pub of_thread : by.thread ≡ u
  pub chain : Chain v L m j

-- n is 1 more than the index of the newest such record, or 0 where there is none
pub record Newest (v : Version) (L : List Record) (j u n : ℕ) : Type 0 where
  pub none_newer : (i : ℕ) → Heard v L j u i → i < n
  pub is_heard : (m : ℕ) → n ≡ suc m → Heard v L j u m

-- the rows of the first n records: clock u of row j is that number of record j and thread u
pub record HeardRows (v : Version) (L : List Record) (n : ℕ) (rows : List Row) : Type 0 where
  pub newest : (j : ℕ) → j < n → (u : ℕ) → u < 8 → Newest v L j u (clock_of (row_at rows j) u)
