-- `text_diagram::lanes::lane_count` meets its contract. The invariant: the lanes of the first records. Assumes nothing.
use Prim.Native.Nat.{◌/◌, ◌≤◌}
use mathlib.Core.Path.{◌≡◌}
use lib.ListN.{length, take}
use Rattle.log_records.specs.Packed.{log_of}
use Rattle.text_diagram_elements.specs.Diagram.{lane_count}
use Rattle.text_diagram.proofs.lanes.lane_count.Given as goal

abbrev pub invariant-loop-index : goal.invariant-loop-index
invariant-loop-index l = (l.index ≤ length l.log / 3) × (l.lanes ≡ lane_count (take l.index (log_of l.log))) × (l.lanes ≤ 8)
