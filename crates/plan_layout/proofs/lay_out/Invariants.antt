-- `lay_out` meets its contract. The invariant: the text of the first tokens begins the area. Assumes nothing.
use Prim.Native.Nat.{◌≤◌}
use lib.ListN.{length}
use Rattle.plan_layout.specs.Inner.Marks.{text_to, WroteWithin}
use Rattle.plan_layout.proofs.lay_out.Given as goal

abbrev pub invariant-loop-index : goal.invariant-loop-index
invariant-loop-index l = (l.index ≤ length l.tokens) × WroteWithin l.initial.area 0 (text_to l.tokens l.marks l.index) l.area l.at l.total
