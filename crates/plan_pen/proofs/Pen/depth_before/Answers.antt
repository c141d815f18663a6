-- `depth_before` meets its contract: nothing is less deep than 0. Assumes nothing.
use mathlib.Core.Path.{sym, ◌∙◌}
use Rattle.plan_notation.specs.Layout.{depth_before}
use Rattle.plan_pen.specs.Inner.Looks.{ends}
use Rattle.plan_pen.proofs.Pen.depth_before.Goals as goal

pub returns-then-ends : goal.returns-then-ends
unfolding depth_before ends
returns-then-ends c = simp (sym c.ends.ensures ∙ c.if-ends.true) c.saturating_sub.ensures

pub returns : goal.returns
unfolding depth_before ends
returns c = simp (sym c.ends.ensures ∙ c.if-ends.false)
