use mathlib.Core.Path.{◌≡◌, refl, sym, ap, ◌∙◌}
use Prim.Native.Nat.{◌<◌, ◌≤◌, ◌-◌, ◌+◌}
use native.Mathlib.Omega.{arith}
use Rattle.run_refocusing_step.specs.Inner.Ahead.{next_in, taken_of, gathered_of}
use Rattle.run_refocusing_step.proofs.Gathers.{takes, stops, spent}
use borrow.Author.Rules.{rules}
use Rattle.run_refocusing_step.proofs.gather.Goals as goal

pub loop-more-init : goal.loop-more-init
loop-more-init c = (c.requires, refl)

pub returns-then-value-ge32 : goal.returns-then-value-ge32
returns-then-value-ge32 c =
    let l = c.loop-more in
    let h : 32 ≤ next_in c.args.words.now l.frame = rw (← c.word-word.ensures, ← c.next-value.ensures) c.if-value-ge32.true in
    let e : l.more - 1 + 1 ≡ l.more = omega (arith, l.invariant.0) in
    rw e (sym (stops l.more c.args.words.now l.frame l.invariant.0 h) ∙ l.invariant.1)

pub loop-more-preserved : goal.loop-more-preserved
loop-more-preserved c =
    let ws = c.args.words.now in
    let l = c.loop-more in
    let t : 1 < l.more = c.loop-more-test.true in
    let h : next_in ws l.frame < 32 = rw (← c.word-word.ensures, ← c.next-value.ensures) (omega (arith, c.if-value-ge32.false)) in
    let e : c.collect-frame.result ≡ taken_of ws l.frame =
    simp (c.collect-frame.ensures, c.rest.ensures, c.second.ensures, c.next-value.ensures, c.word-word.ensures) in
    (omega (arith, t), ap (gathered_of (l.more - 1 - 1) ws) e ∙ sym (takes l.more ws l.frame t h) ∙ l.invariant.1)

pub returns : goal.returns
returns c =
    let l = c.loop-more in
    let z : l.more ≡ 1 = omega (arith, c.loop-more-test.false, l.invariant.0) in
    let e = rw z at l.invariant.1 in
    sym (spent 1 c.args.words.now l.frame refl) ∙ e
