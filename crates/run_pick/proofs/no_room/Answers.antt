-- `no_room_lem` meets its contract. Assumes nothing.
use borrow.Author.Rules.{rules}
use Rattle.run_pick.proofs.no_room.Goals as goal

pub returns : goal.returns
returns c = simp c.no_entry.ensures
