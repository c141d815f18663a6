-- `roots` meets its contract. Assumes nothing.
use mathlib.Core.Path.{◌≡◌}
use Prim.Native.Nat.{◌-◌, ◌≤◌}
use lib.ListN.{length}
use Rattle.play.specs.Inner.Roots.{Roots}
use Rattle.play.proofs.roots.Given as goal

abbrev pub invariant-loop-procedure : goal.invariant-loop-procedure
invariant-loop-procedure l = (length l.all ≡ 32) × Roots l.plan l.procedure l.all
