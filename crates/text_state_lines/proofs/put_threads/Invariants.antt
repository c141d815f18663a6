-- `text_state_lines::put_threads` meets its contract. The invariant: the lines of the first threads. Assumes nothing.
use Prim.Native.Nat.{◌*◌, ◌≤◌}
use lib.ListN.{take}
use Rattle.text.specs.Inner.Wrote.{Wrote}
use Rattle.text_state_lines.specs.Inner.Threads.{thread_lines}
use Rattle.text_state_lines.proofs.put_threads.Given as goal

abbrev pub invariant-loop-index : goal.invariant-loop-index
invariant-loop-index l = (l.index ≤ 8) × (l.at ≤ 163 * l.index) × Wrote l.initial.area 0 (thread_lines 0 (take l.index l.threads)) l.area l.at
