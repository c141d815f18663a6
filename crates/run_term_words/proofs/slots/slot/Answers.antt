-- `slot` meets its contract. Assumes nothing.
use borrow.Author.Tests.{lt-ltb, le-ltb}
use Rattle.run_term_words.specs.Inner.Slots.{slot_of}
use borrow.Author.Rules.{rules}
use Rattle.run_term_words.proofs.slots.slot.Goals as goal

pub returns-then-slot-lt8 : goal.returns-then-slot-lt8
unfolding slot_of
returns-then-slot-lt8 c = simp (lt-ltb _ _ c.if-slot-lt8.true)

pub returns : goal.returns
unfolding slot_of
returns c = simp (le-ltb _ _ c.if-slot-lt8.false)
