-- `name_from` meets its contract. The invariant: the name goes on, with its number so far. Assumes nothing.
use Prim.Native.Nat.{ℕ, ◌≤◌}
use mathlib.Core.Path.{◌≡◌}
use lib.ListN.{length}
use Rattle.plan_notation.specs.Lexing.{name}
use Rattle.plan_scanner.specs.Inner.Extents.{onward}
use Rattle.plan_scanner.proofs.extents.name_from.Given as goal

abbrev pub invariant-loop-end : goal.invariant-loop-end
invariant-loop-end l =
    (l.from ≤ l.end) × (l.end ≤ length l.text) × ((s : ℕ) → onward (name s l.first) l.text l.from ≡ onward (name s l.value) l.text l.end)
