-- `bytes_at`: the bytes so far make the number of their bits. Assumes nothing.
use mathlib.Core.Path.{◌≡◌}
use Prim.Native.Nat.{◌*◌}
use Rattle.format.specs.Bits.{bits_at}
use Rattle.plan_bit_reader.proofs.bytes_at.Given as goal

abbrev pub invariant-loop-byte : goal.invariant-loop-byte
invariant-loop-byte l = l.value ≡ bits_at l.plan (l.start * 8) (l.byte-index * 8)
