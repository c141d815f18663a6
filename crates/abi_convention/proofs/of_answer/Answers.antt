-- `abi_convention::of_answer` meets its contract: the number of each answer.
use Rattle.abi_convention.specs.Convention.{answer_number}
use Rattle.abi_convention.proofs.of_answer.Goals as goal

pub returns-in-Ok : goal.returns-in-Ok
unfolding answer_number
returns-in-Ok g c = simp c.in-Ok.is

pub returns-in-Err : goal.returns-in-Err
unfolding answer_number
returns-in-Err g c = simp (c.refusal.ensures, c.number.ensures, c.place.ensures, c.in-Err.is)
