use Prim.Native.Nat.{ℕ, ◌-◌, ◌≤◌, ◌<◌}
use native.Mathlib.Omega.{arith}
use mathlib.Core.Path.{◌≡◌, sym, ◌∙◌}
use mathlib.Core.Bool.{false}
use borrow.Author.Rules.{rules}
use Rattle.run_open_threads.specs.Inner.Open.{open_at}
use Rattle.run_open_threads.proofs.Lowest.{none_more}
use Rattle.run_open_threads.proofs.open_from.Goals as goal

pub loop-thread-init : goal.loop-thread-init
loop-thread-init c k h b = absurd (omega arith)

pub returns-then-is_open : goal.returns-then-is_open
unfolding open_at
returns-then-is_open c =
    record { within = omega arith; reached = omega arith; here = λ h. sym c.is_open.ensures ∙ c.if-is_open.true; before = c.loop-thread.invariant }

pub loop-thread-preserved : goal.loop-thread-preserved
unfolding open_at
loop-thread-preserved c =
    none_more _ _ _ c.loop-thread.invariant (sym c.is_open.ensures ∙ c.if-is_open.false)

pub returns : goal.returns
returns c = record { within = omega arith; reached = omega arith; here = λ h. absurd (omega arith); before = λ k a b. c.loop-thread.invariant k a (omega arith) }
