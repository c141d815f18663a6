-- `list_length`: what is counted and what is left to count make the list.
use mathlib.Core.Path.{◌≡◌}
use Prim.Native.Nat.{◌+◌, ◌-◌, ◌<◌}
use Rattle.plan_packed.specs.Refusals.{list_length}
use Rattle.plan_name_tests.proofs.list_length.Given as goal

abbrev pub invariant-loop-length : goal.invariant-loop-length
invariant-loop-length l = (l.term < l.count) × (l.length + list_length l.plan (9 - l.length) l.term ≡ list_length l.plan 9 l.from)
