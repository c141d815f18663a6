-- `put_fields` meets its contract. The invariant: the first fields are behind the text. Assumes nothing.
use Prim.Native.Nat.{◌-◌, ◌≤◌}
use Rattle.plan_packed.specs.Format.{fields_from}
use Rattle.text.specs.Inner.Wrote.{Wrote}
use Rattle.plan_token_writer.proofs.put_fields.Given as goal

abbrev pub invariant-loop-field : goal.invariant-loop-field
invariant-loop-field l =
    (l.first ≤ l.field) × (l.field ≤ 32) × Wrote l.initial.area l.at (fields_from l.mask l.first (l.field - l.first)) l.area l.next
