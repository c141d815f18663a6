-- `lay_within` meets its contract. The invariant: the text is what is written, and what the tokens that are left come to; a token has at most 50 bytes. Assumes
-- nothing.
use Prim.Native.Nat.{◌≤◌, ◌<◌}
use mathlib.Core.Path.{◌≡◌}
use mathlib.Core.List.{◌++◌}
use lib.ListN.{length, take, drop}
use Rattle.plan_notation.specs.Tokens.{text_end}
use Rattle.plan_notation.specs.Layout.{laid_from, laid_out}
use Rattle.plan_pen.specs.Inner.Pens.{pen_of}
use Rattle.plan_layout.proofs.lay_within.Given as goal

abbrev pub invariant-loop-token : goal.invariant-loop-token
invariant-loop-token l =
    (l.token-index ≤ length l.tokens)
    × (l.at < length l.room)
    × (l.pen.column < 100)
    × (l.pen.depth ≤ l.token-index)
    × (l.pen.last ≤ text_end)
    × (length l.room ≡ length l.initial.room)
    × (laid_out l.tokens ≡ take l.at l.room ++ laid_from (pen_of l.pen) (drop l.token-index l.tokens))
