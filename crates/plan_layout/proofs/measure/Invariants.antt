-- `measure` meets its contract. The invariant: the total and the length of the rest are the length of the text, which begins with the text of the tokens
-- that are marked; a token has at most 50 bytes. Assumes nothing.
use Prim.Native.Nat.{ℕ, ◌+◌, ◌*◌, ◌%◌, ◌≤◌, ◌<◌}
use mathlib.Core.Path.{◌≡◌}
use mathlib.Core.List.{List, ◌++◌}
use lib.ListN.{length, get_or, drop}
use Rattle.plan_notation.specs.Tokens.{text_end}
use Rattle.plan_notation.specs.Layout.{Pen, laid_from, laid_out}
use Rattle.plan_pen.specs.Inner.Pens.{pen_of}
use Rattle.plan_layout.specs.Inner.Marks.{text_to}
use Rattle.plan_layout.proofs.measure.Given as goal

-- the first tokens are marked, and what is left of the text is that of the others
pub record Marking (ts ms : List ℕ) (p : Pen) (i n : ℕ) : Type 0 where
  pub kept : length ms ≡ n
  pub text : laid_out ts ≡ text_to ts ms i ++ laid_from p (drop i ts)
  pub few : (k : ℕ) → k < i → get_or ms k 0 % 64 ≤ 40

abbrev pub invariant-loop-index : goal.invariant-loop-index
invariant-loop-index l =
    (l.index ≤ length l.tokens)
    × (l.total ≤ 50 * l.index)
    × (l.pen.column < 100)
    × (l.pen.depth ≤ l.index)
    × (l.total + length (laid_from (pen_of l.pen) (drop l.index l.tokens)) ≡ length (laid_out l.tokens))
    × Marking l.tokens l.marks (pen_of l.pen) l.index (length l.initial.marks)
    × (l.pen.last ≤ text_end)
