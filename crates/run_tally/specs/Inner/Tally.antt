-- What a run counts, and its records in the log: the machine that the code runs; no reader of the entries' promises needs it. Assumes nothing.
use Rattle.std.specs.Prelude.{ℕ, ◌+◌, Bool, cond, List, eqb}
use Rattle.log_packing.specs.Inner.Packing.{word_of, put_at}
use Rattle.run_state.specs.declared.Counts.{Counts}
use Rattle.run_state.specs.declared.Entry.{Entry}
use Rattle.run_state.specs.Inner.Acted.{counts_of, entry_of}
use Rattle.run_outcome.specs.declared.Stop.{Stop}
use Rattle.run_outcome.specs.declared.Thread.{Thread}
use Rattle.run_outcome.specs.declared.Outcome.{Outcome}
use Rattle.run_tally.specs.declared.Tally.{Tally}
use Rattle.run_tally.specs.declared.Ran.{Ran}

-- the log with the thread's record as record n, unless it has none
unfoldable pub log_put : List ℕ → ℕ → ℕ → Entry → List ℕ
log_put l n p e = cond (eqb e.kind 0) l (put_at l n (word_of e.kind p e.object e.field e.value))

unfoldable pub records_after : ℕ → Entry → ℕ
records_after n e = cond (eqb e.kind 0) n (n + 1)

-- the record of a move; where every move is to have one, that of a move without is a `new` record of object 0
abbrev pub shown_entry : Bool → Entry → Entry
shown_entry every e = cond every (cond (eqb e.kind 0) (entry_of 1 0 0 0) e) e

abbrev pub tally_put : Tally → Entry → Tally
tally_put s e = record { counts = s.counts; moves = s.moves; records = records_after s.records e }

abbrev pub tally_moved : Tally → Counts → Tally
tally_moved s n = record { counts = n; moves = s.moves + 1; records = s.records }

abbrev pub tally_first : Tally
tally_first = record { counts = counts_of 1 1 1; moves = 0; records = 0 }

-- the outcome of a run that ended so behind so many picks
abbrev pub outcome_of : Stop → ℕ → Tally → List Thread → Outcome
outcome_of e i s ts = record { stop = e; picks = i; moves = s.moves; records = s.records; threads = ts }

-- what it comes to, with its moves and records before the last pick that it met
abbrev pub result_of : Stop → ℕ → Tally → ℕ → ℕ → List Thread → Ran
result_of e i s moves records ts = record { outcome = outcome_of e i s ts; before = record { moves = moves; records = records } }
