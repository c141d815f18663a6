-- `has` meets its contract. Assumes nothing.
use mathlib.Core.Path.{refl}
use Rattle.run_look.specs.Inner.Look.{has_of}
use borrow.Author.Rules.{rules}
use Rattle.run_look.proofs.has.Goals as goal

pub returns : goal.returns
unfolding has_of
returns c = refl
