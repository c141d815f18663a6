-- `count_on` meets its contract. Assumes nothing.
use native.Mathlib.Omega.{arith}
use Rattle.interleavings.proofs.Counting.{longer}
use Rattle.interleavings.proofs.count_on.Goals as goal

pub returns : goal.returns
returns c = λ L w. omega (arith, longer c.loop-place.invariant.0 L w, c.loop-place-test.false)
