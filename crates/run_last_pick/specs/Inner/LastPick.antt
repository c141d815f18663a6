-- What the last pick of a run did, as the code finds it. For inner contracts; no reader of an entry's promise needs it. Assumes nothing.
use Rattle.std.specs.Prelude.{ℕ, ◌+◌, ◌*◌, ◌-◌, ◌≤◌, ◌<◌, ◌≡◌, cond, List, eqb, ltb, length, get_or}
use Rattle.run_outcome.specs.declared.Stop.{Stop}
use Rattle.run_outcome.specs.declared.Stop.TheVariants as stop
use Rattle.run_outcome.specs.declared.Outcome.{Outcome}
use Rattle.run_open_threads.specs.Inner.Open.{absent}
use Rattle.run_last_pick.specs.declared.RecordBytes.{RecordBytes}
use Rattle.run_last_pick.specs.declared.Preview.{Preview}
use Rattle.run_last_pick.specs.declared.Preview.TheVariants as previewed

-- the bytes of record i
abbrev pub record_in : List ℕ → ℕ → RecordBytes
record_in log i = record { high = get_or log (3 * i) 0; middle = get_or log (3 * i + 1) 0; low = get_or log (3 * i + 2) 0 }

abbrev pub last_record : List ℕ → Outcome → RecordBytes
last_record log o = record_in log (o.records - 1)

-- a run that did not stop, with so many moves and records before its last pick, which was passed over, or moved without a record, or with one
unfoldable pub last_ended : Outcome → ℕ → ℕ → ℕ → List ℕ → Preview
last_ended o moves records pick log =
    cond (eqb o.moves moves)
    (previewed.Passed (get_or o.threads pick absent).state)
    (cond (eqb o.records records) previewed.Moved (previewed.Recorded (last_record log o)))

-- a run that dealt with every pick before the last
unfoldable pub last_met : Outcome → ℕ → ℕ → ℕ → List ℕ → Stop → Preview
unfolding last_ended
last_met o moves records pick log stop.End = last_ended o moves records pick log
last_met o moves records pick log stop.Race = previewed.Race (last_record log o)
last_met o moves records pick log (stop.NoRoom k) = previewed.NoRoom k

unfoldable pub last_pick : Outcome → ℕ → ℕ → ℕ → ℕ → List ℕ → Preview
unfolding last_met
last_pick o moves records before pick log = cond (ltb o.picks before) (previewed.Stopped o.stop) (last_met o moves records pick log o.stop)

-- what the code asks for: one of eight threads, a log with all records, and one record where the last is read
pub record LastGiven (o : Outcome) (records before pick : ℕ) (log : List ℕ) : Type 0 where
  pub one_of_eight : pick < 8
  pub within : 3 * o.records ≤ length log
  pub raced : before ≤ o.picks → o.stop ≡ stop.Race → 1 ≤ o.records
  pub grown : records ≤ o.records
