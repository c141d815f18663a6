-- `place_of` meets its contract. Assumes nothing.
use mathlib.Core.Path.{refl}
use Rattle.plan_scanner.specs.Inner.Names.{place_of}
use Rattle.plan_scanner.proofs.names.place_of.Goals as goal

pub returns : goal.returns
unfolding place_of
returns c = refl
