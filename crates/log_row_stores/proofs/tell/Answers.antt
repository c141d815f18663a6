-- `log_row_stores::tell` meets its contract. Assumes nothing.
use Rattle.log_row_stores.proofs.Stores.{told_by}
use Rattle.log_row_stores.proofs.tell.Goals as goal

pub raised_to-requires : goal.raised_to-requires
raised_to-requires c = let p = c.requires in record { row_low = p.sound.low _; told_low = p.sound.low _; most_in = p.time_in }

pub returns : goal.returns
returns c = let p = c.requires in told_by _ _ p.sound p.row_in _ _ _ c.raised_to.ensures
