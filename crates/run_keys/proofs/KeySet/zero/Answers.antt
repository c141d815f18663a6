-- `KeySet::zero` meets its contract. Assumes nothing.
use mathlib.Core.Path.{refl}
use Rattle.run_keys.proofs.KeySetLaws.{made, keys_zero}
use Rattle.run_keys.proofs.KeySet.zero.Goals as goal

pub returns : goal.returns
returns c = made refl keys_zero
