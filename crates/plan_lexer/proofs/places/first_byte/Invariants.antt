-- `first_byte` meets its contract. The invariant: the token is the one that so many are before, from the next byte on. Assumes nothing.
use Prim.Native.Nat.{◌-◌, ◌≤◌}
use mathlib.Core.Path.{◌≡◌}
use lib.ListN.{length}
use Rattle.plan_notation.specs.Lexing.{nothing, tokens_of}
use Rattle.plan_scanner.specs.Inner.Extents.{onward}
use Rattle.plan_lexer.specs.Place.{place_in}
use Rattle.plan_lexer.proofs.places.first_byte.Given as goal

abbrev pub invariant-loop-index : goal.invariant-loop-index
invariant-loop-index l =
    (l.index ≤ length l.text) × (place_in (tokens_of l.text) l.number (length l.text) ≡ place_in (onward nothing l.text l.index) l.left (length l.text))

abbrev pub decreases-loop-index : goal.decreases-loop-index
decreases-loop-index l = length l.text - l.index
