use Rattle.format.proofs.Filled.{filled}
use Rattle.log_clocks.specs.Inner.Rows.{clock_of}
use lib.ListN.{length-set, length-replicate}
use native.Mathlib.Omega.{arith}
use mathlib.Core.Path.{◌≡◌}
use Prim.Native.Nat.{ℕ, max}
use Rattle.log_clocks.proofs.raised.Goals as goal

pub loop-thread-init : goal.loop-thread-init
loop-thread-init c = (omega arith, length-replicate {A = ℕ} 8 0, λ k h. absurd (omega arith))

pub loop-thread-preserved : goal.loop-thread-preserved
loop-thread-preserved c =
    let l = c.loop-thread in
    let a = c.args in (
      omega arith,
      simp length-set l.invariant.1,
      filled {A = ℕ} l.clocks l.thread c.higher.result 0 (λ (k x : ℕ). x ≡ max (clock_of a.row k) (clock_of a.told k)) (omega arith) l.invariant.2
          c.higher.ensures,
    )

pub returns : goal.returns
returns c = record { wide = c.loop-thread.invariant.1; clocks_are = λ u h. c.loop-thread.invariant.2 u (omega arith) }
