-- Which threads of an outcome can move or stop the run. For inner contracts; no reader of the entries' promise needs it. Assumes nothing.
use Rattle.std.specs.Prelude.{ℕ, ◌≤◌, ◌<◌, ◌≡◌, Bool, true, false, ◌&&◌, List, get_or}
use Rattle.run_outcome.specs.declared.Stop.{Stop}
use Rattle.run_outcome.specs.declared.Stop.TheVariants as stop
use Rattle.run_outcome.specs.declared.ThreadState.{ThreadState}
use Rattle.run_outcome.specs.declared.ThreadState.TheVariants as state
use Rattle.run_outcome.specs.declared.Thread.{Thread}
use Rattle.run_outcome.specs.declared.Outcome.{Outcome}

-- a thread in this state moves, or stops the run for a missing key or for room
abbrev pub is_open : ThreadState → Bool
is_open state.Absent = false
is_open (state.Finished v) = false
is_open state.Ready = true
is_open (state.Waiting w) = false
is_open (state.Stuck w) = false
is_open (state.Lacking o f) = true

-- no thread
abbrev pub absent : Thread
absent = record { state = state.Absent; learnt = 0 }

unfoldable pub open_at : List Thread → ℕ → Bool
open_at threads k = is_open (get_or threads k absent).state

-- a run that ended so has not stopped
abbrev pub unstopped : Stop → Bool
unstopped stop.End = true
unstopped stop.Race = false
unstopped (stop.NoRoom k) = false

-- thread k can be picked after a run: it moves, or stops the run, and the run has not stopped
unfoldable pub open_after : Outcome → ℕ → Bool
unfolding open_at
open_after o k = unstopped o.stop && open_at o.threads k

-- r is the lowest of the threads from `from` on that pass the test, or 8
pub record LowestFrom (f : ℕ → Bool) (from r : ℕ) : Type 0 where
  pub within : r ≤ 8
  pub reached : from ≤ r
  pub here : r < 8 → f r ≡ true
  pub before : (k : ℕ) → from ≤ k → k < r → f k ≡ false

-- the lowest thread by which a run goes on, or 8: it has stopped, no place is left, or no thread can be picked
pub record GoesOnBy (threads : List Thread) (stopped : Bool) (places made r : ℕ) : Type 0 where
  pub within : r ≤ 8
  pub going : r < 8 → (stopped ≡ false) × (made < places) × LowestFrom (open_at threads) 0 r
  pub none : r ≡ 8 → stopped ≡ false → made < places → (k : ℕ) → k < 8 → open_at threads k ≡ false
