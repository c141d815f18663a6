-- `store` meets its contract. Assumes nothing.
use borrow.Author.Rules.{rules}
use Rattle.run_refocusing.proofs.store.Goals as goal

pub returns : goal.returns
returns c = simp c.pack-packed.ensures
