-- `KeySet::join` meets its contract: each word's new keys are at most 64. Assumes nothing.
use native.Mathlib.Omega.{arith}
use borrow.Author.Rules.{rules}
use Rattle.run_keys.proofs.KeySetLaws.{joins, joined_words}
use Rattle.run_keys.proofs.KeySet.join.Goals as goal

pub overflow_add-new : goal.overflow_add-new
overflow_add-new c = record { fits = omega (arith, c.new_keys.ensures.1, c.new_keys-2.ensures.1) }

pub overflow_add-new-2 : goal.overflow_add-new-2
overflow_add-new-2 c = record { fits = omega (arith, c.new_keys.ensures.1, c.new_keys-2.ensures.1, c.new_keys-3.ensures.1) }

pub overflow_add-new-3 : goal.overflow_add-new-3
overflow_add-new-3 c = record {
  fits =
      omega (
        arith,
        c.new_keys.ensures.1,
        c.new_keys-2.ensures.1,
        c.new_keys-3.ensures.1,
        c.new_keys-4.ensures.1,
      );
}

pub returns : goal.returns
returns c =
    joins
    (joined_words _ _ _ _ _ _ c.new_keys.ensures.0 c.new_keys-2.ensures.0 c.new_keys-3.ensures.0
    c.new_keys-4.ensures.0)
    (search rules) (search rules)
