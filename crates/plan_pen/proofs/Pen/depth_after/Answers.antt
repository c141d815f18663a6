-- `depth_after` meets its contract. Assumes nothing.
use native.Mathlib.Omega.{arith}
use native.Mathlib.Numerals.{add-one}
use mathlib.Core.Path.{sym, ◌∙◌}
use Rattle.plan_notation.specs.Layout.{depth_after}
use Rattle.plan_pen.specs.Inner.Pens.{pen_of}
use Rattle.plan_pen.specs.Inner.Looks.{begins}
use Rattle.plan_pen.proofs.PenLaws.{depth_before_below}
use Rattle.plan_pen.proofs.Pen.depth_after.Goals as goal

pub overflow_add-result : goal.overflow_add-result
overflow_add-result c =
    record {
      fits = omega (arith, c.depth_before-depth.ensures, c.requires.1, depth_before_below (pen_of c.args.self) c.args.token);
    }

pub returns-then-begins : goal.returns-then-begins
unfolding depth_after begins
returns-then-begins c = simp (sym c.begins.ensures ∙ c.if-begins.true, c.depth_before-depth.ensures, add-one)

pub returns : goal.returns
unfolding depth_after begins
returns c = simp (sym c.begins.ensures ∙ c.if-begins.false, c.depth_before-depth.ensures)
