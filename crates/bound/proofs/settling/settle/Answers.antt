use mathlib.Core.Path.{sym, subst}
use mathlib.Core.List.{List}
use Prim.Native.Nat.{ℕ}
use native.Mathlib.Omega.{arith}
use Rattle.bound.specs.Inner.Settling.{Settled}
use Rattle.bound.proofs.Rounds.{none_settled, settled_as}
use Rattle.bound.proofs.settling.settle.Goals as goal

pub loop-done-init : goal.loop-done-init
loop-done-init c = subst (λ (l : List ℕ). Settled c.args.plan.now 0 l) (sym c.requires.costs_value) (none_settled c.args.plan.now)

pub round-next-requires : goal.round-next-requires
round-next-requires c = record { loads = c.requires.loads; called = c.requires.called; settled = c.loop-done.invariant }

pub returns-then-next-done : goal.returns-then-next-done
returns-then-next-done c = record { settled = settled_as c.if-next-done.true c.round-next.ensures.settled_2; stuck = c.round-next.ensures.stuck c.if-next-done.true }

pub loop-done-smaller : goal.loop-done-smaller
loop-done-smaller c =
    let r = c.round-next.ensures in
    let g = r.lower_bound in
    let s = r.settled_2.small in
    omega (arith, c.if-next-done.false)

pub loop-done-preserved : goal.loop-done-preserved
loop-done-preserved c = c.round-next.ensures.settled_2
