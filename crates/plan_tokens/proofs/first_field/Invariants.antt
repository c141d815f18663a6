-- `first_field` meets its contract. The invariant: no field before this one is there. Assumes nothing.
use Prim.Native.Nat.{◌-◌, ◌≤◌}
use mathlib.Core.Path.{◌≡◌}
use Rattle.plan_packed.specs.Format.{fields_from}
use Rattle.plan_tokens.proofs.first_field.Given as goal

abbrev pub invariant-loop-field : goal.invariant-loop-field
invariant-loop-field l = (l.field ≤ 32) × (fields_from l.mask 1 31 ≡ fields_from l.mask l.field (32 - l.field))
