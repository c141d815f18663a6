-- `spot_after` meets its contract. The invariant: the line and the column are those behind the bytes that are passed. Assumes nothing.
use Prim.Native.Nat.{◌+◌, ◌≤◌}
use mathlib.Core.Path.{◌≡◌}
use lib.ListN.{drop}
use Rattle.plan_notation.specs.Lexing.{place_from, place_after}
use Rattle.plan_lexer.proofs.places.spot_after.Given as goal

abbrev pub invariant-loop-byte : goal.invariant-loop-byte
invariant-loop-byte l =
    (l.line ≤ l.byte-index + 1) × (l.column ≤ l.byte-index + 1) × (place_after l.bytes ≡ place_from l.line l.column (drop l.byte-index l.bytes))
