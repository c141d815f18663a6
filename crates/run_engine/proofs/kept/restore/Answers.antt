-- `restore` meets its contract. Assumes nothing.
use borrow.Author.Rules.{rules}
use Rattle.run_engine.proofs.kept.restore.Goals as goal

pub returns : goal.returns
returns c = simp c.turned-keys.ensures
