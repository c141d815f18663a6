-- `push_items` meets its contract. The invariant: the row's items from one on are on the stack. Assumes nothing.
use Prim.Native.Nat.{◌+◌, ◌-◌, ◌≤◌}
use Rattle.plan_token_writer.specs.Inner.Items.{row_number, items_from, Pushed}
use Rattle.plan_token_writer.proofs.push_items.Given as goal

abbrev pub invariant-loop-left : goal.invariant-loop-left
invariant-loop-left l =
    (l.left ≤ row_number l.row 1) × Pushed l.initial.stack l.top (items_from l.word l.row (2 + l.left) (row_number l.row 1 - l.left)) l.stack l.next
