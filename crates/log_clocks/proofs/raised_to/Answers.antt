use Rattle.format.proofs.Filled.{filled}
use Rattle.log_clocks.specs.Inner.Rows.{clock_of}
use lib.ListN.{length-set, length-replicate}
use native.Mathlib.Omega.{arith}
use mathlib.Core.Path.{◌≡◌, ap, ◌∙◌}
use Prim.Native.Nat.{ℕ, max, min}
use Rattle.log_clocks.proofs.raised_to.Goals as goal

pub loop-thread-init : goal.loop-thread-init
loop-thread-init c = (omega arith, length-replicate {A = ℕ} 8 0, λ k h. absurd (omega arith))

pub lesser-known-requires : goal.lesser-known-requires
lesser-known-requires c = let p = c.requires in record { one_in = p.told_low _; other_in = p.most_in }

pub greater-requires : goal.greater-requires
greater-requires c = let p = c.requires in record { one_in = p.row_low _; other_in = omega (arith, c.lesser-known.ensures, p.most_in) }

pub loop-thread-preserved : goal.loop-thread-preserved
loop-thread-preserved c =
    let l = c.loop-thread in
    let a = c.args in (
      omega arith,
      simp length-set l.invariant.1,
      filled {A = ℕ} l.clocks l.thread c.greater.result 0 (λ (k x : ℕ). x ≡ max (clock_of a.row k) (min (clock_of a.told k) a.most))
          (omega arith) l.invariant.2 (c.greater.ensures ∙ ap (max (clock_of a.row l.thread)) c.lesser-known.ensures),
    )

pub returns : goal.returns
returns c = record { wide = c.loop-thread.invariant.1; clocks_are = λ u h. c.loop-thread.invariant.2 u (omega arith) }
