-- `KeySet::is_empty` meets its contract. Assumes nothing.
use Rattle.run_keys.proofs.KeySetLaws.{told, empty_words, keys_is_empty}
use Rattle.run_keys.proofs.KeySet.is_empty.Goals as goal

pub returns : goal.returns
returns c = told (empty_words _) (keys_is_empty _)
