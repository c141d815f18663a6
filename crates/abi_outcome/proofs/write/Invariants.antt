-- `abi_outcome::write` meets its contract. The invariant: with the threads that are left, the bytes are those of the first seven and all eight threads.
-- Assumes nothing.
use Prim.Native.Nat.{◌-◌, ◌≤◌}
use mathlib.Core.Path.{◌≡◌}
use Rattle.format.proofs.Turns.{turns}
use Rattle.abi_outcome.proofs.Threads.{put_thread}
use Rattle.abi_outcome.proofs.write.Given as goal

abbrev pub invariant-loop-number : goal.invariant-loop-number
invariant-loop-number l = (l.number ≤ 8) × (turns (put_thread l.threads) (8 - l.number) l.number l.out ≡ turns (put_thread l.threads) 8 0 l.initial.out)

abbrev pub decreases-loop-number : goal.decreases-loop-number
decreases-loop-number l = 8 - l.number
