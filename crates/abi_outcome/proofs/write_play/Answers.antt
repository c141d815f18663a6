-- `write_play` meets its contract: the number and the bytes of each answer. Assumes nothing.
use mathlib.Core.Path.{refl}
use Rattle.abi_convention.proofs.Wider.{wider}
use Rattle.abi_outcome.specs.Play.{play_number, out_after}
use Rattle.abi_outcome.proofs.write_play.Goals as goal

pub refusal-requires : goal.refusal-requires
refusal-requires g c = rw c.number.ensures (rw c.place.ensures (wider (rw c.in-Err.is at c.requires)))

pub write-requires : goal.write-requires
write-requires g c = rw c.in-Ok.is at c.requires

pub returns-in-Ok : goal.returns-in-Ok
unfolding play_number out_after
returns-in-Ok g c = rw c.in-Ok.is (record { number = refl; bytes = c.write.ensures })

pub returns-in-Err : goal.returns-in-Err
unfolding play_number out_after
returns-in-Err g c = rw c.in-Err.is (record { number = simp (c.refusal.ensures, c.number.ensures, c.place.ensures); bytes = refl })
