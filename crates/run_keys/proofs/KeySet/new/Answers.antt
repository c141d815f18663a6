-- `KeySet::new` meets its contract. Assumes nothing.
use mathlib.Core.Path.{refl}
use Rattle.run_keys.proofs.KeySetLaws.{made, keys_empty}
use Rattle.run_keys.proofs.KeySet.new.Goals as goal

pub returns : goal.returns
returns c = made refl keys_empty
