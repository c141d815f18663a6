-- `log_row_stores::hear` meets its contract. Assumes nothing.
use Rattle.log_row_stores.proofs.Stores.{heard_by}
use native.Mathlib.Omega.{arith}
use Rattle.log_row_stores.proofs.hear.Goals as goal

pub raised_to-requires : goal.raised_to-requires
raised_to-requires c = let p = c.requires in record { row_low = p.sound.low _; told_low = p.sound.low _; most_in = omega arith }

pub returns : goal.returns
returns c = let p = c.requires in heard_by _ _ p.sound p.row_in _ _ c.raised_to.ensures
