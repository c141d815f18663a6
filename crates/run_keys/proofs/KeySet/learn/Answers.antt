-- `KeySet::learn` meets its contract: each branch knows the word's number, k / 64. Assumes nothing.
use native.Mathlib.Omega.{arith}
use borrow.Author.Rules.{rules}
use Rattle.run_keys.proofs.KeySetLaws.{made, learn_word, keys_learn}
use Rattle.run_keys.proofs.KeySet.learn.Goals as goal

pub returns-then-key-lt64 : goal.returns-then-key-lt64
returns-then-key-lt64 c = made (learn_word _ _ 0 (omega arith)) (keys_learn _ (omega arith) (search rules))

pub returns-then-key-lt128 : goal.returns-then-key-lt128
returns-then-key-lt128 c = made (learn_word _ _ 1 (omega arith)) (keys_learn _ (omega arith) (search rules))

pub returns-then-key-lt192 : goal.returns-then-key-lt192
returns-then-key-lt192 c = made (learn_word _ _ 2 (omega arith)) (keys_learn _ (omega arith) (search rules))

pub returns-else-key-lt192 : goal.returns-else-key-lt192
returns-else-key-lt192 c = made (learn_word _ _ 3 (omega arith)) (keys_learn _ (omega arith) (search rules))
