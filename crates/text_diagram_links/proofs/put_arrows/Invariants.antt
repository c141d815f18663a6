-- `text_diagram::links::put_arrows` meets its contract. The invariant: the first arrows. Assumes nothing.
use Prim.Native.Nat.{◌*◌, ◌≤◌}
use Rattle.log_records.specs.Packed.{log_of}
use Rattle.text_diagram_elements.specs.Diagram.{arrow_texts, arrows_of}
use Rattle.text_diagram_elements.specs.Inner.Drawn.{Drawn}
use Rattle.text_diagram_links.proofs.put_arrows.Given as goal

abbrev pub invariant-loop-index : goal.invariant-loop-index
invariant-loop-index l =
    (l.index ≤ l.count) × Drawn (66 * l.index) l.initial.area l.at (arrow_texts (log_of l.log) (arrows_of l.starts l.ends l.index)) l.area l.next
