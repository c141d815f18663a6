-- `waveform::put_samples` meets its contract. The invariant: the lines of the first i records, and the end of a line after them. Assumes nothing.
use Prim.Native.Nat.{◌/◌, ◌≤◌}
use mathlib.Core.Path.{◌≡◌}
use lib.ListN.{length, take}
use Rattle.log_records.specs.Packed.{log_of}
use Rattle.text.specs.Inner.Wrote.{Wrote}
use Rattle.text_sample_lines.specs.DataFile.{sample_lines}
use Rattle.text_sample_lines.specs.Inner.LineEnds.{end_of}
use Rattle.waveform.proofs.put_samples.Given as goal

abbrev pub invariant-loop-index : goal.invariant-loop-index
invariant-loop-index l =
    (l.index ≤ length l.log / 3) × (l.end ≡ end_of (take l.index (log_of l.log))) × Wrote l.initial.area 0 (sample_lines (log_of l.log) l.index) l.area l.at
