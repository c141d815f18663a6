-- `abi_numbers::of_read` meets its contract: the number of each answer. Assumes nothing.
use borrow.Author.Rules.{rules}
use Rattle.abi_numbers.specs.Numbers.{read_number}
use Rattle.abi_numbers.proofs.of_read.Goals as goal

pub returns-in-Ok : goal.returns-in-Ok
unfolding read_number
returns-in-Ok c = simp c.in-Ok.is

pub returns-in-Err-Short : goal.returns-in-Err-Short
unfolding read_number
returns-in-Err-Short c = search rules

pub returns-in-Err-Failed : goal.returns-in-Err-Failed
unfolding read_number
returns-in-Err-Failed c = search rules
