-- `log_arrows::implied::by_one` meets its contract. The invariant: whether one of the threads so far has heard.
-- Assumes nothing.
use Rattle.log_arrows.specs.Inner.Implied.{heard_in, implied}
use mathlib.Core.Path.{◌≡◌}
use Rattle.log_arrows.proofs.implied.by_one.Given as goal

abbrev pub invariant-loop-other : goal.invariant-loop-other
invariant-loop-other l = l.found ≡ implied (heard_in l.rows) l.index l.thread l.other
