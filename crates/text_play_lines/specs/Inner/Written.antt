-- What is written of a run. For inner contracts; no reader of the entries' promise needs it. Assumes nothing.
use Rattle.std.specs.Prelude.{ℕ, ◌-◌, ◌≤◌, ◌≡◌, List, ◌++◌, length}
use Rattle.format.specs.Version.{Version}
use Rattle.log_records.specs.Packed.{log_of}
use Rattle.log_order.specs.Chains.{Unordered}
use Rattle.run_outcome.specs.declared.Stop.{Stop}
use Rattle.run_outcome.specs.declared.Stop.TheVariants as stop
use Rattle.play.specs.Answer.{stop_of}
use Rattle.log_last_write.specs.Inner.LastWrite.{HasLast}
use Rattle.text.specs.Inner.Wrote.{Wrote}
use Rattle.text_record_lines.specs.Lines.{record_lines}
use Rattle.text_last_lines.specs.Lines.{outcome_line}
use Rattle.text_race_lines.specs.Lines.{unordered_lines}

-- a log of at most 4,096 records, an area with room for every text, and an earlier write for the last record of a run that raced
pub record RunRoom (b area : List ℕ) (e : Stop) (records : ℕ) : Type 0 where
  pub short : length b ≤ 12288
  pub room : 131072 ≤ length area
  pub raced : e ≡ stop.Race → (1 ≤ records) × HasLast b (records - 1)

-- the lines of the records of the log b, and the last line
abbrev pub shots_of : List ℕ → Stop → ℕ → ℕ → ℕ → List ℕ
shots_of b e picks moves records = record_lines 0 (log_of b) ++ outcome_line (stop_of e) picks moves records

-- those alone, or with the lines of the last record, by the chains of any version
pub record WroteRun (b : List ℕ) (e : Stop) (picks moves records : ℕ) (before after : List ℕ) (r : ℕ) : Type 0 where
  pub no_race : (e ≡ stop.Race → ⊥) → Wrote before 0 (shots_of b e picks moves records) after r
  pub races : e ≡ stop.Race → (v : Version) (u : Unordered v (log_of b) (records - 1))
      → Wrote before 0 (shots_of b e picks moves records ++ unordered_lines u) after r
