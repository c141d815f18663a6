-- `number_of` meets its contract. The invariant: the number of the digits before. Assumes nothing.
use Prim.Native.Nat.{◌<◌}
use mathlib.Core.Path.{◌≡◌}
use lib.ListN.{take}
use Rattle.text_inputs.specs.Numerals.{number_from}
use Rattle.text_inputs.proofs.numerals.number_of.Given as goal

abbrev pub invariant-loop-byte : goal.invariant-loop-byte
invariant-loop-byte l = (l.number ≡ number_from 0 (take l.byte-index l.bytes)) × (l.number < 1000256)
