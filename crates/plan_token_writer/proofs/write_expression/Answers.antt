use native.Mathlib.Omega.{arith}
use mathlib.Core.Path.{refl, ◌∙◌}
use Rattle.plan_token_writer.proofs.Writing.{starts, going, goes_on_lem, ends}
use Rattle.plan_token_writer.proofs.write_expression.Goals as goal

pub loop-standing-init : goal.loop-standing-init
loop-standing-init c =
    (starts _ c.requires.ordered.0 _ c.requires.ordered.1 _ _ c.push-top.ensures c.requires.stack_size, refl)

pub step-standing-requires : goal.step-standing-requires
step-standing-requires c =
    let l = c.loop-standing in
    going _ c.requires.ordered.0 c.requires.root_in_bounds c.loop-standing-test.true l.invariant.0

pub loop-standing-smaller : goal.loop-standing-smaller
loop-standing-smaller c = c.step-standing.ensures.less

pub loop-standing-preserved : goal.loop-standing-preserved
loop-standing-preserved c =
    let l = c.loop-standing.invariant in
    let s = c.step-standing.ensures in
    (goes_on_lem l.0 s, s.kept ∙ l.1)

pub returns : goal.returns
returns c = ends c.loop-standing.invariant.0 (omega arith)
