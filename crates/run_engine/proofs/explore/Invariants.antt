-- `explore` meets its contract. Where a round begins, the run stands at its first place and all places before its end are noted; in a round, the rest of the
-- run from here is the run of the round's picks; in the look at all threads, what is left to see makes up all that is seen. Assumes nothing.
use mathlib.Core.Path.{◌≡◌}
use mathlib.Core.List.{List, map}
use Prim.Native.Nat.{ℕ, ◌≤◌, ◌-◌}
use lib.ListN.{length}
use Rattle.format.proofs.Turns.{turns}
use Rattle.run_lists.specs.Inner.Lists.{Right}
use Rattle.run_engine.specs.Inner.Kept.{restore_of}
use Rattle.run_engine.specs.Inner.Engine.{threads_of}
use Rattle.run_engine.specs.Inner.Exploring.{all_picks}
use Rattle.run_engine.proofs.Looks.{put_thread}
use Rattle.run_engine.proofs.Standing.{Standing}
use Rattle.run_engine.proofs.Rounds.{Round}
use Rattle.run_engine.proofs.explore.Given as goal

abbrev pub invariant-loop-i : goal.invariant-loop-i
invariant-loop-i l =
    (l.from ≤ l.i) × (l.i ≤ l.to) × (l.dealt ≡ l.to)
    × ((first : List ℕ)
    → Standing l.words l.roots l.setting l.every first (all_picks l.picks l.notes) l.from l.initial.log l.initial.heads l.initial.cells l.initial.objects
    l.initial.places l.initial.stack l.initial.passed l.initial.tally l.initial.stop l.initial.moves_before l.initial.records_before
    → Standing l.words l.roots l.setting l.every first (all_picks l.picks l.notes) l.i l.log l.heads l.cells l.objects l.places l.stack l.passed l.tally
    l.stop l.moves_before l.records_before)
    × Right l.words l.lists

abbrev pub decreases-loop-i : goal.decreases-loop-i
decreases-loop-i l = l.to - l.i

abbrev pub invariant-loop-thread : goal.invariant-loop-thread
invariant-loop-thread l =
    (l.thread ≤ 8) × (turns (put_thread l.counts l.heads (map restore_of l.cells) l.objects l.places l.setting) (8 - l.thread) l.thread l.threads
    ≡ threads_of l.setting l.counts l.heads (map restore_of l.cells) l.objects l.places)

abbrev pub decreases-loop-thread : goal.decreases-loop-thread
decreases-loop-thread l = 8 - l.thread

abbrev pub invariant-loop-to : goal.invariant-loop-to
invariant-loop-to l =
    Standing l.words l.roots l.setting l.every l.initial.log (all_picks l.picks l.notes) l.from l.log l.heads l.cells l.objects l.places l.stack l.passed
    l.tally l.stop l.moves_before l.records_before
    × Round l.words l.roots l.setting l.every l.initial.log l.picks l.initial.notes l.notes l.lowest l.from l.to
    × (length l.threads ≡ 8) × Right l.words l.lists

abbrev pub decreases-loop-to : goal.decreases-loop-to
decreases-loop-to l = length l.notes - l.to
