-- What a stop counts for. For inner contracts; no reader of the entries' promise needs it. Assumes nothing.
use Rattle.std.specs.Prelude.{ℕ}
use Rattle.run_outcome.specs.declared.Stop.{Stop}
use Rattle.run_outcome.specs.declared.Stop.TheVariants as stop

-- one for a run that stopped
abbrev pub stop_count : Stop → ℕ
stop_count stop.End = 0
stop_count stop.Race = 1
stop_count (stop.NoRoom k) = 1
