-- `zeros` meets its contract. Assumes nothing.
use borrow.Author.Rules.{rules}
use Rattle.run_engine.proofs.kept.zeros.Goals as goal

pub returns : goal.returns
returns c = simp c.new-none.ensures.exact
