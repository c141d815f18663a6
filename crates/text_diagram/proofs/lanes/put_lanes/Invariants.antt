-- `text_diagram::lanes::put_lanes` meets its contract. The invariant: the first lanes. Assumes nothing.
use Prim.Native.Nat.{◌*◌, ◌≤◌}
use Rattle.text_diagram_elements.specs.Diagram.{lane_texts}
use Rattle.text_diagram_elements.specs.Inner.Drawn.{Drawn}
use Rattle.text_diagram.proofs.lanes.put_lanes.Given as goal

abbrev pub invariant-loop-thread : goal.invariant-loop-thread
invariant-loop-thread l = (l.thread ≤ l.lanes) × Drawn (120 * l.thread) l.initial.area l.at (lane_texts l.records l.thread) l.area l.next
