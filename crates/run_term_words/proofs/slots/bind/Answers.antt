-- `bind` meets its contract. Assumes nothing.
use borrow.Author.Tests.{lt-ltb, le-ltb}
use Prim.Native.Nat.{◌%◌}
use native.Mathlib.Omega.{arith}
use Rattle.run_term_words.specs.Inner.Slots.{bind_of}
use Rattle.run_term_words.proofs.Units.{held_le, new_le}
use borrow.Author.Rules.{rules}
use Rattle.run_term_words.proofs.slots.bind.Goals as goal

pub overflow_mul-result : goal.overflow_mul-result
overflow_mul-result c = record { fits = omega (arith, held_le (c.args.environment % 1099511627776) c.unit-unit.result) }

pub overflow_sub-result : goal.overflow_sub-result
overflow_sub-result c = held_le (c.args.environment % 1099511627776) c.unit-unit.result

pub overflow_mul-result-then-slot-lt8 : goal.overflow_mul-result-then-slot-lt8
overflow_mul-result-then-slot-lt8 c = record { fits = omega (arith, new_le c.args.value c.unit-unit.result) }

pub overflow_add-result : goal.overflow_add-result
overflow_add-result c = record { fits = omega (arith, new_le c.args.value c.unit-unit.result) }

pub returns-then-slot-lt8 : goal.returns-then-slot-lt8
unfolding bind_of
returns-then-slot-lt8 c = simp (lt-ltb _ _ c.if-slot-lt8.true, c.unit-unit.ensures.0)

pub returns : goal.returns
unfolding bind_of
returns c = simp (le-ltb _ _ c.if-slot-lt8.false)
