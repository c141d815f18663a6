-- `text_diagram::rows::put_rows` meets its contract. The invariant: the rows of the first records. Assumes nothing.
use Prim.Native.Nat.{◌*◌, ◌/◌, ◌≤◌}
use lib.ListN.{length, take}
use Rattle.log_records.specs.Packed.{log_of}
use Rattle.text_diagram_elements.specs.Diagram.{row_texts, race_of}
use Rattle.text_diagram_elements.specs.Inner.Drawn.{Drawn}
use Rattle.text_diagram_rows.proofs.put_rows.Given as goal

abbrev pub invariant-loop-index : goal.invariant-loop-index
invariant-loop-index l =
    (l.index ≤ length l.log / 3) × Drawn (192 * l.index) l.initial.area l.at (row_texts l.lanes (race_of l.race) 0 (take l.index (log_of l.log))) l.area l.next
