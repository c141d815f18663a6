-- `abi_convention::of_check` meets its contract: the number of each answer.
use Rattle.abi_convention.specs.Convention.{check_number}
use Rattle.abi_convention.proofs.Wider.{wider}
use Rattle.abi_convention.proofs.of_check.Goals as goal

pub refusal-requires : goal.refusal-requires
refusal-requires g c = rw c.number.ensures (rw c.place.ensures (wider (rw c.in-Err.is at c.requires)))

pub returns-in-Ok : goal.returns-in-Ok
unfolding check_number
returns-in-Ok g c = simp c.in-Ok.is

pub returns-in-Err : goal.returns-in-Err
unfolding check_number
returns-in-Err g c = simp (c.refusal.ensures, c.number.ensures, c.place.ensures, c.in-Err.is)
