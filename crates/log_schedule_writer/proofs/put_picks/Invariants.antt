-- `put_picks` meets its contract: what is written so far, with the picks of the rest, is all of them. Assumes nothing.
use mathlib.Core.Path.{◌≡◌}
use lib.ListN.{length}
use Rattle.log_schedule_writer.proofs.Picks.{Writing}
use Rattle.log_schedule_writer.proofs.put_picks.Given as goal

abbrev pub invariant-loop-index : goal.invariant-loop-index
invariant-loop-index l = Writing l.log l.kept l.initial.area l.numbers l.next l.at l.index l.area × (length l.area ≡ length l.initial.area)
