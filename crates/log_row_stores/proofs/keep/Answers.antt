-- `log_row_stores::keep` meets its contract. Assumes nothing.
use Rattle.log_row_stores.proofs.Stores.{kept_by}
use Rattle.log_row_stores.proofs.keep.Goals as goal

pub returns : goal.returns
returns c = kept_by _ _ c.requires.sound c.requires.row_in _ _ c.requires.thread_in c.requires.time_in
