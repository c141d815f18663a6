-- `abi_numbers::of_next` meets its contract: the number of each answer. Assumes nothing.
use borrow.Author.Rules.{rules}
use Rattle.abi_numbers.specs.Numbers.{next_number}
use Rattle.abi_numbers.proofs.of_next.Goals as goal

pub returns-in-Ok-Some : goal.returns-in-Ok-Some
unfolding next_number
returns-in-Ok-Some g c = search rules

pub returns-in-Ok-None : goal.returns-in-Ok-None
unfolding next_number
returns-in-Ok-None g c = search rules

pub returns-in-Err : goal.returns-in-Err
unfolding next_number
returns-in-Err g c = simp (c.refusal.ensures, c.number.ensures, c.place.ensures, c.in-Err.is)
