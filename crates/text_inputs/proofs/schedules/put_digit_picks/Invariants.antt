-- `put_digit_picks` meets its contract. The invariant: the picks of the bytes before are written. Assumes nothing.
use Prim.Native.Nat.{◌≤◌}
use lib.ListN.{take}
use Rattle.text.specs.Inner.Wrote.{Wrote}
use Rattle.text_inputs.specs.Schedules.{digit_picks}
use Rattle.text_inputs.proofs.schedules.put_digit_picks.Given as goal

abbrev pub invariant-loop-byte : goal.invariant-loop-byte
invariant-loop-byte l = (l.next ≤ l.byte-index) × Wrote l.initial.area 0 (digit_picks (take l.byte-index l.bytes)) l.area l.next
