-- The answer to a pick. The machine that the code runs; no reader of the entries' promises needs it. Assumes nothing.
use Rattle.std.specs.Prelude.{Bool}
use Rattle.run_outcome.specs.declared.Stop.{Stop}
use Rattle.run_state.specs.declared.Head.{Head}
use Rattle.run_state.specs.declared.Cell.{Cell}
use Rattle.run_state.specs.declared.Object.{Object}
use Rattle.run_state.specs.declared.Counts.{Counts}
use Rattle.run_state.specs.declared.Entry.{Entry}

-- what a move leaves: the mover, the thread that it makes if it forks, the cell, the object that it makes, the counts, the record
pub record Move : Type 0 where
  pub mover : Head
  pub forked : Head
  pub cell : Cell
  pub object : Object
  pub counts : Counts
  pub entry : Entry
  pub forks : Bool

-- a pick is passed over, moves its thread, or stops the run with a last record
pub data PickAnswer : Type 0 where
  Passed : PickAnswer
  Moved : Move → PickAnswer
  Stopped : Stop → Entry → PickAnswer
