-- `text_judge_lines::search::last_conflict` meets its contract. The invariant: every access that is sought comes before the index. The measure is the index.
-- Assumes nothing.
use Prim.Native.Nat.{◌≤◌}
use Rattle.format.specs.Version.{version_of}
use Rattle.text_judge_lines.proofs.LastConflicts.{Earlier, HeardBy}
use Rattle.text_judge_lines.proofs.search.last_conflict.Given as goal

abbrev pub invariant-loop-index : goal.invariant-loop-index
invariant-loop-index l =
    (l.index ≤ l.later) × HeardBy (version_of l.version) l.log l.later l.row × Earlier (version_of l.version) l.log l.later l.index
