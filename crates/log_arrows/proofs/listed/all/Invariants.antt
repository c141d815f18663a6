-- `log_arrows::listed::all` meets its contract. The invariant: the arrows to the records so far are held. Assumes nothing.
use Rattle.log_arrows.specs.Arrows.{pairs}
use Rattle.log_arrows.specs.Inner.Implied.{heard_in, thread_at, arrows_below}
use lib.ListN.{length}
use mathlib.Core.Path.{◌≡◌}
use Prim.Native.Nat.{◌*◌, ◌≤◌}
use Rattle.log_arrows.proofs.listed.all.Given as goal

abbrev pub invariant-loop-index : goal.invariant-loop-index
invariant-loop-index l =
    (length l.from ≡ length l.initial.from) × (length l.to ≡ length l.initial.to) × (l.held ≤ 7 * l.index)
    × (pairs l.held l.from l.to ≡ arrows_below (heard_in l.rows) (thread_at l.log) l.index)
