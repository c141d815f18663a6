-- `lex` meets its contract. The invariant: the tokens that are kept, and those from the next byte on, are the tokens of the text. Assumes nothing.
use Prim.Native.Nat.{ℕ, ◌-◌, ◌≤◌}
use mathlib.Core.Path.{◌≡◌}
use mathlib.Core.List.{List, ◌++◌}
use lib.ListN.{length}
use Rattle.plan_notation.specs.Lexing.{nothing, codes_of}
use Rattle.plan_scanner.specs.Inner.Extents.{onward}
use Rattle.plan_lexer.specs.Kept.{Kept}
use Rattle.plan_lexer.proofs.KeptLaws.{codes}
use Rattle.plan_lexer.proofs.lex.Given as goal

abbrev pub invariant-loop-index : goal.invariant-loop-index
invariant-loop-index l =
    (l.index ≤ length l.text) × (done : List ℕ) × (codes_of l.text ≡ done ++ codes (onward nothing l.text l.index)) × Kept l.initial.tokens done l.tokens l.count

abbrev pub decreases-loop-index : goal.decreases-loop-index
decreases-loop-index l = length l.text - l.index
