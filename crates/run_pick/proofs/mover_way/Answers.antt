-- `mover_way` meets its contract. Assumes nothing.
use borrow.Author.Rules.{rules}
use Rattle.run_pick.proofs.mover_way.Goals as goal

pub returns : goal.returns
returns c = simp c.remainder.ensures
