-- `after` meets its contract: on the next line or on the same. Assumes nothing.
use native.Mathlib.Omega.{arith}
use Rattle.plan_pen.specs.Inner.Pens.{pen_of}
use Rattle.plan_pen.proofs.PenLaws.{pen_is, on_next, on_same}
use Rattle.plan_pen.proofs.Pen.after.Goals as goal
use Rattle.plan_pen.proofs.Pen.after.Goals.{then-gap, else-gap}

pub returns : goal.returns
returns c =
    let at_line = on_next (pen_of c.args.self) c.args.token c.args.gap c.requires.parts c.args.width c.requires.width_value.0 in
    let on_line = on_same (pen_of c.args.self) c.args.token c.args.gap c.requires.parts c.args.width c.requires.width_value.0 in
    pen_is (pen_of c.args.self) c.args.token _ _
    (elim c.if-gap.branch [
      | then-gap w ↦ omega (arith, w.line-is, at_line w.if-gap.true)
      | else-gap w ↦ omega (arith, w.line-is, on_line w.if-gap.false)
    ])
    c.depth_after-depth.ensures
