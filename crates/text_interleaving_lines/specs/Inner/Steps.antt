-- Where the listing stands. For inner contracts; no reader of the entries' promise needs it. Assumes nothing.
use Rattle.std.specs.Prelude.{ℕ, ◌≤◌, ◌≡◌, List, length, take, Option, Some, None}
use Rattle.std.proofs.Math.Option.{none}
use Rattle.plan_packed.specs.Trees.{program_of}
use Rattle.listing.specs.Listed.{Listed, First, Following, Over}
use Rattle.interleavings.specs.Count.{count_refused}

-- a listed schedule at the beginning of an area that is long enough for each
pub record Here (plan : List ℕ) (n : ℕ) (schedule : List ℕ) (picks : ℕ) : Type 0 where
  pub passed : count_refused plan n ≡ none
  pub long : 64 ≤ length schedule
  pub few : picks ≤ 64
  pub listed : Listed (program_of plan) n (take picks schedule)

-- the first
pub record Begun (plan : List ℕ) (n : ℕ) (schedule : List ℕ) (picks : ℕ) : Type 0 where
  pub here : Here plan n schedule picks
  pub is_first : First (program_of plan) n (take picks schedule)

-- the following one in its place, or the list is over
abbrev pub Advanced : (plan : List ℕ) → ℕ → List ℕ → ℕ → List ℕ → Option ℕ → Type 0
Advanced plan n before picks after (Some m) = Here plan n after m × Following (program_of plan) n (take picks before) (take m after)
Advanced plan n before picks after None = Over (program_of plan) n (take picks before)
