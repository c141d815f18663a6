-- `open_from` meets its contract. Assumes nothing.
use Prim.Native.Nat.{ℕ, ◌-◌, ◌≤◌, ◌<◌}
use native.Mathlib.Omega.{arith}
use mathlib.Core.Path.{◌≡◌, sym, ◌∙◌}
use mathlib.Core.Bool.{false}
use borrow.Author.Rules.{rules}
use Rattle.run_open_threads.specs.Inner.Open.{open_at}
use Rattle.run_open_threads.proofs.Lowest.{none_more}
use Rattle.run_open_threads.proofs.open_from.Given as goal

abbrev pub invariant-loop-thread : goal.invariant-loop-thread
invariant-loop-thread l = (k : ℕ) → l.from ≤ k → k < l.thread → open_at l.threads k ≡ false
