use mathlib.Core.Path.{ap}
use mathlib.Core.Bool.{not}
use Prim.Native.Nat.{◌/◌, ◌%◌, ◌^◌}
use native.Mathlib.Omega.{arith}
use borrow.Author.Count.{below_more}
use borrow.Author.Rules.{rules}
use borrow.Author.Tests.{eq-eqb, ne_eqb}
use Rattle.format.proofs.LowestLaws.{found, found_none}
use Rattle.run_keys.specs.Keys.{holds}
use Rattle.bound.proofs.settling.lowest_left.Goals as goal

pub loop-procedure-init : goal.loop-procedure-init
loop-procedure-init c = λ k h. absurd (omega arith)

pub returns-then-done-procedure-eq0 : goal.returns-then-done-procedure-eq0
unfolding holds
returns-then-done-procedure-eq0 c =
    let l = c.loop-procedure in
    let d = c.args.done in
    found (λ p. not (holds d p)) _ _ (search rules) (ap not (ne_eqb (d / 2 ^ l.procedure % 2) 1 (λ e. omega (arith, e, c.if-done-procedure-eq0.true)))) l.invariant

pub loop-procedure-preserved : goal.loop-procedure-preserved
unfolding holds
loop-procedure-preserved c =
    let l = c.loop-procedure in
    let d = c.args.done in
    below_more _ _ l.invariant (ap not (eq-eqb (d / 2 ^ l.procedure % 2) 1 (omega (arith, c.if-done-procedure-eq0.false))))

pub returns : goal.returns
returns c =
    let l = c.loop-procedure in
    found_none (λ p. not (holds c.args.done p)) _ _ (search rules) (search rules) (λ k h. l.invariant k (omega arith))
