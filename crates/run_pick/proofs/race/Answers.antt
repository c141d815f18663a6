-- `race` meets its contract. Assumes nothing.
use borrow.Author.Rules.{rules}
use Rattle.run_pick.proofs.race.Goals as goal

pub returns : goal.returns
returns c = simp c.lack.ensures
