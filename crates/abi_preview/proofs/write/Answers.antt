-- `abi_preview::write` meets its contract: the number and the bytes of each preview. Assumes nothing.
use mathlib.Core.Path.{refl}
use Rattle.abi_convention.proofs.Wider.{wider}
use Rattle.abi_preview.specs.Bytes.{preview_number, out_after}
use Rattle.abi_preview.proofs.write.Goals as goal

pub write_shown-requires : goal.write_shown-requires
write_shown-requires g c = rw c.in-Ok.is at c.requires

pub refusal-requires : goal.refusal-requires
refusal-requires g c = rw c.number.ensures (rw c.place.ensures (wider (rw c.in-Err.is at c.requires.0)))

pub returns-in-Ok : goal.returns-in-Ok
unfolding preview_number out_after
returns-in-Ok g c = rw c.in-Ok.is (record { number = refl; bytes = c.write_shown.ensures })

pub returns-in-Err : goal.returns-in-Err
unfolding preview_number out_after
returns-in-Err g c = rw c.in-Err.is (record { number = simp (c.refusal.ensures, c.number.ensures, c.place.ensures); bytes = refl })
