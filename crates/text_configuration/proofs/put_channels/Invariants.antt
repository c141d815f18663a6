-- `text_configuration::put_channels` meets its contract. The invariant: the lines of the first objects. Assumes nothing.
use Prim.Native.Nat.{◌+◌, ◌*◌, ◌≤◌}
use Rattle.text.specs.Inner.Wrote.{Wrote}
use Rattle.text_configuration.specs.Configuration.{channel_lines}
use Rattle.text_configuration.proofs.put_channels.Given as goal

abbrev pub invariant-loop-object : goal.invariant-loop-object
invariant-loop-object l = (l.object ≤ 32) × (l.next ≤ l.at + 18 * l.object) × Wrote l.initial.area l.at (channel_lines l.object) l.area l.next
