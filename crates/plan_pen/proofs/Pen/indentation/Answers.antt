-- `indentation` meets its contract. Assumes nothing.
use native.Mathlib.Omega.{arith}
use Rattle.plan_notation.specs.Layout.{indentation}
use Rattle.plan_pen.proofs.Pen.indentation.Goals as goal

pub returns-then-depth-lt20 : goal.returns-then-depth-lt20
unfolding indentation
returns-then-depth-lt20 c = omega (arith, c.depth_before-depth.ensures)

pub returns : goal.returns
unfolding indentation
returns c = omega (arith, c.depth_before-depth.ensures)
