-- What is written from the moves of a run that raced, for inner contracts: no reader of the entry's promise needs it. Assumes nothing.
use Rattle.std.specs.Prelude.{ℕ, suc, ◌/◌, ◌<◌, ◌≤◌, ◌≡◌, List, length}
use Rattle.format.specs.Version.{v1}
use Rattle.format.specs.Area.{overwrite}
use Rattle.log_records.specs.Packed.{log_of}
use Rattle.log_order.specs.Chains.{Unordered}
use Rattle.answers.specs.Answer.{Answer}
use Rattle.side_by_side.specs.SideBySide.{WrittenFrom}
use Rattle.log_schedule_writer.specs.Inner.Kept.{Small}

-- the log of the moves of a run that raced: few, the last of them unordered after the last write; and whose schedule has picks of eight threads
pub record RacedIn (b : List ℕ) : Type 0 where
  pub few : length b / 3 ≤ 4096
  pub failing : ℕ
  pub at_end : suc failing ≡ length b / 3
  pub unordered : Unordered v1 (log_of b) failing
  pub small : (qs : List ℕ) → WrittenFrom (log_of b) qs → Small qs

-- the answer, and the area afterwards
pub data WritesFrom (b area : List ℕ) : Answer → List ℕ → Type 0 where
  too_short : {qs : List ℕ} → WrittenFrom (log_of b) qs → length area < length qs → WritesFrom b area (Answer.refused (record { number = 17; place = 0 })) area
  wrote : {qs : List ℕ} → WrittenFrom (log_of b) qs → length qs ≤ length area → WritesFrom b area (Answer.value (length qs)) (overwrite qs area)
