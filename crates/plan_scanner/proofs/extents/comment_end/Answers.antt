use native.Mathlib.Omega.{arith}
use mathlib.Core.Path.{◌≡◌, refl, ap, ◌∙◌}
use lib.ListN.{length}
use Rattle.plan_notation.specs.Lexing.{nothing}
use Rattle.plan_scanner.specs.Inner.Extents.{onward}
use Rattle.plan_scanner.proofs.ScanLaws.{comment_on, comment_over, comment_last}
use Rattle.plan_scanner.proofs.extents.comment_end.Goals as goal

pub loop-end-init : goal.loop-end-init
loop-end-init c = (omega arith, c.requires, refl)

pub returns-then-text-end-eq10 : goal.returns-then-text-end-eq10
returns-then-text-end-eq10 c = let l = c.loop-end in
    record { behind = l.invariant.0; inside = l.invariant.1; same = l.invariant.2 ∙ comment_over _ l.end c.loop-end-test.true c.if-text-end-eq10.true }

pub loop-end-preserved : goal.loop-end-preserved
loop-end-preserved c = let l = c.loop-end in
    (omega arith, omega arith, l.invariant.2 ∙ comment_on _ l.end c.loop-end-test.true c.if-text-end-eq10.false)

pub returns : goal.returns
returns c = let l = c.loop-end in
    let e : l.end ≡ length c.args.text.now = omega (arith, l.invariant.1, c.loop-end-test.false) in
    record {
      behind = c.requires;
      inside = omega arith;
      same = l.invariant.2 ∙ comment_last _ l.end c.loop-end-test.false ∙ ap (onward nothing c.args.text.now) e;
    }
