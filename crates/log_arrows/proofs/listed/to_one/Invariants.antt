-- `log_arrows::listed::to_one` meets its contract. The invariant: the arrows from the threads so far are added. Assumes nothing.
use Rattle.log_arrows.specs.Inner.Implied.{heard_in, Added}
use lib.ListN.{length}
use mathlib.Core.Path.{◌≡◌}
use Rattle.log_arrows.proofs.listed.to_one.Given as goal

abbrev pub invariant-loop-thread : goal.invariant-loop-thread
invariant-loop-thread l =
    (length l.from ≡ length l.initial.from) × (length l.to ≡ length l.initial.to) × Added (heard_in l.rows) l.own l.index l.thread l.count l.initial.from l.initial.to l.held l.from l.to
