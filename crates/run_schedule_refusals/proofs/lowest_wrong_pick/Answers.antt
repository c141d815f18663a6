use mathlib.Core.Path.{◌≡◌}
use mathlib.Core.Bool.{false}
use Prim.Native.Nat.{ℕ, ◌-◌, ◌<◌, ◌≤◌}
use native.Mathlib.Omega.{arith}
use lib.ListN.{length}
use borrow.Author.Rules.{rules}
use borrow.Author.Tests.{lt-ltb, le-ltb}
use borrow.Author.Count.{below_more}
use Rattle.format.proofs.LowestLaws.{found, found_none}
use Rattle.rules.specs.Play.{wrong_pick}
use Rattle.run_schedule_refusals.proofs.lowest_wrong_pick.Goals as goal

pub loop-i-init : goal.loop-i-init
loop-i-init c k h = absurd (omega arith)

pub returns-then-pick-gt7 : goal.returns-then-pick-gt7
unfolding wrong_pick
returns-then-pick-gt7 c =
    let l = c.loop-i in
    found (wrong_pick c.args.schedule.now) _ _ (search rules) (lt-ltb 7 _ c.if-pick-gt7.true) l.invariant

pub loop-i-preserved : goal.loop-i-preserved
unfolding wrong_pick
loop-i-preserved c = below_more _ _ c.loop-i.invariant (le-ltb 7 _ c.if-pick-gt7.false)

pub returns : goal.returns
returns c = let l = c.loop-i in found_none (wrong_pick c.args.schedule.now) _ _ (search rules) (search rules) (λ k h. l.invariant k (omega arith))
