-- `put_digit_line` meets its contract. The invariant: the digits of the picks before are behind the text. Assumes nothing.
use Prim.Native.Nat.{◌+◌}
use mathlib.Core.Path.{◌≡◌}
use lib.ListN.{take}
use Rattle.text.specs.Inner.Wrote.{Wrote}
use Rattle.text_inputs.specs.Schedules.{digits_of}
use Rattle.text_inputs.proofs.schedules.put_digit_line.Given as goal

abbrev pub invariant-loop-pick : goal.invariant-loop-pick
invariant-loop-pick l = (l.next ≡ l.at + l.pick-index) × Wrote l.initial.area l.at (digits_of (take l.pick-index l.picks)) l.area l.next
