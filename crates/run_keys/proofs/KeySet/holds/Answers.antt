-- `KeySet::holds` meets its contract. Assumes nothing.
use native.Mathlib.Omega.{arith}
use borrow.Author.Rules.{rules}
use Rattle.run_keys.proofs.KeySetLaws.{told, holds_word, keys_holds}
use Rattle.run_keys.proofs.KeySet.holds.Goals as goal

pub returns : goal.returns
returns c = told (holds_word _ _ _ c.word.ensures) (keys_holds _ (omega arith) (search rules))
