-- `comment_end` meets its contract. The invariant: the comment goes on. Assumes nothing.
use Prim.Native.Nat.{◌≤◌}
use mathlib.Core.Path.{◌≡◌}
use lib.ListN.{length}
use Rattle.plan_notation.specs.Lexing.{comment}
use Rattle.plan_scanner.specs.Inner.Extents.{onward}
use Rattle.plan_scanner.proofs.extents.comment_end.Given as goal

abbrev pub invariant-loop-end : goal.invariant-loop-end
invariant-loop-end l = (l.from ≤ l.end) × (l.end ≤ length l.text) × (onward comment l.text l.from ≡ onward comment l.text l.end)
