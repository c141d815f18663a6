-- `put_word` meets its contract. The invariant: the bytes before are behind the text. Assumes nothing.
use Prim.Native.Nat.{◌+◌}
use mathlib.Core.Path.{◌≡◌}
use lib.ListN.{take}
use Rattle.text.specs.Inner.Wrote.{Wrote}
use Rattle.text.proofs.put_word.Given as goal

abbrev pub invariant-loop-byte : goal.invariant-loop-byte
invariant-loop-byte l = (l.next ≡ l.at + l.byte-index) × Wrote l.initial.area l.at (take l.byte-index l.word) l.area l.next
