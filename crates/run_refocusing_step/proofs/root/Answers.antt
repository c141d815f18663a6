-- `root` meets its contract. Assumes nothing.
use mathlib.Core.Path.{refl}
use Rattle.run_refocusing_step.specs.Inner.Down.{root_at}
use borrow.Author.Rules.{rules}
use Rattle.run_refocusing_step.proofs.root.Goals as goal

pub returns : goal.returns
unfolding root_at
returns c = refl
