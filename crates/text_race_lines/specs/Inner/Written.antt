-- What is written of two records. For inner contracts; no reader of the entries' promise needs it. Assumes nothing.
use Rattle.std.specs.Prelude.{ℕ, ◌+◌, ◌≤◌, ◌<◌, List, length}
use Rattle.format.specs.Version.{Version}
use Rattle.log_records.specs.Packed.{log_of}
use Rattle.log_order.specs.Chains.{Unordered}
use Rattle.log_last_write.specs.Inner.LastWrite.{HasLast}
use Rattle.log_packing.specs.declared.Columns.{Columns}
use Rattle.log_packing.specs.Inner.Columns.{Narrow}
use Rattle.text.specs.Inner.Wrote.{Wrote}
use Rattle.text_race_lines.specs.Lines.{unordered_lines}

-- a log as long as a log may be, with an earlier write of the field of record j, and an area with room for both lines
pub record RaceRoom (b : List ℕ) (j : ℕ) (area : List ℕ) (at : ℕ) : Type 0 where
  pub has_last : HasLast b j
  pub short : length b ≤ 12288
  pub room : at + 200 ≤ length area

-- by the chains of any version, the lines of record j
abbrev pub WroteUnordered : List ℕ → ℕ → List ℕ → ℕ → List ℕ → ℕ → Type 0
WroteUnordered b j before at after r = (v : Version) (u : Unordered v (log_of b) j) → Wrote before at (unordered_lines u) after r

-- two records of a log, and an area with room for both lines
pub record ConflictRoom (i : ℕ) (w : Columns) (j : ℕ) (x : Columns) (area : List ℕ) (at : ℕ) : Type 0 where
  pub few_earlier : i < 4096
  pub few_later : j < 4096
  pub earlier : Narrow w
  pub later : Narrow x
  pub room : at + 200 ≤ length area
