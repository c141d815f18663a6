-- Going back and going on, step by step. For inner contracts; no reader of the entries' promise needs it. Assumes nothing.
use Rattle.std.specs.Prelude.{ℕ, ◌+◌, ◌≤◌, ◌<◌, ◌≡◌, true, false, List, length, get_or, take, drop, Option, Some, None}
use Rattle.std.proofs.Math.Option.{some}
use Rattle.std.proofs.Math.ListN.{get_elem?}
use Rattle.format.specs.Area.{overwrite}
use Rattle.plan_packed.specs.Syntax.{Program}
use Rattle.plan_packed.specs.Trees.{program_of}
use Rattle.listing.specs.Order.{AtMost}
use Rattle.listing.specs.Listed as listing
use Rattle.listing.specs.Listed.{Listed, Following}
use Rattle.listing.specs.WholeList.{WholeList}
use Rattle.listing.specs.Inner.CanFollow.{can_follow}
use Rattle.listing.specs.Inner.Ways.{Way}
use Rattle.run_replays.specs.Inner.Replay.{Accepted}
use Rattle.run_replays.specs.Inner.Told.{Noted}

-- ---- going on

-- a plan and its words, a bound, an area that is long enough for it and begins with picks each of which can follow those before it
pub record Begins (plan words : List ℕ) (n : ℕ) (area : List ℕ) (from : ℕ) : Type 0 where
  pub accepted : Accepted plan words
  pub bound : n ≤ 64
  pub long : n ≤ length area
  pub within : from ≤ n
  pub way : Way (can_follow (program_of plan)) (take from area)

-- the first `from` picks of an area, gone on with up to `at`: the same bytes past it, a listed schedule, and no listed one that is not before the first picks
-- is before it
pub record Reached (g : Program) (n from : ℕ) (before after : List ℕ) (at : ℕ) : Type 0 where
  pub within : at ≤ n
  pub reached : from ≤ at
  pub kept : length after ≡ length before
  pub front : take from after ≡ take from before
  pub rest : drop at after ≡ drop at before
  pub listed : Listed g n (take at after)
  pub least : (rs : List ℕ) → Listed g n rs → AtMost (take from before) rs → AtMost (take at after) rs

-- ---- going back

-- no thread above pick i can be picked in its place
abbrev pub NoneHigher : Program → List ℕ → ℕ → Type 0
NoneHigher g ps i = (k : ℕ) → get_or ps i 0 < k → k < 8 → can_follow g (take i ps) k ≡ false

-- the lowest thread that can be picked in the place of a lower one, at the last place where there is one
pub record TurnsAt (g : Program) (ps : List ℕ) (place pick : ℕ) : Type 0 where
  pub inside : place < length ps
  pub higher : get_or ps place 0 < pick
  pub of_eight : pick < 8
  pub can : can_follow g (take place ps) pick ≡ true
  pub lowest : (k : ℕ) → get_or ps place 0 < k → k < pick → can_follow g (take place ps) k ≡ false
  pub last : (i : ℕ) → place < i → i < length ps → NoneHigher g ps i

-- ---- both

-- a listed schedule and its notes, an accepted plan, an area that is long enough
pub record Listing (plan words : List ℕ) (n : ℕ) (schedule notes area : List ℕ) : Type 0 where
  pub accepted : Accepted plan words
  pub bound : n ≤ 64
  pub long : n ≤ length area
  pub listed : Listed (program_of plan) n schedule
  pub noted : Noted (program_of plan) schedule notes

-- the following schedule is written, or the list is over
abbrev pub Followed : Program → ℕ → List ℕ → List ℕ → List ℕ → Option ℕ → Type 0
Followed g n ps before after (Some r) = (qs : List ℕ) × Following g n ps qs × (r ≡ length qs) × (after ≡ overwrite qs before)
Followed g n ps before after None = listing.Over g n ps × (after ≡ before)

-- ---- counting

-- a listed schedule at the beginning of an area that is long enough, as the schedule at a place of the whole list
pub record Stands (plan words : List ℕ) (n : ℕ) (area : List ℕ) (picks place : ℕ) : Type 0 where
  pub accepted : Accepted plan words
  pub bound : n ≤ 64
  pub long : 64 ≤ length area
  pub few : picks ≤ 64
  pub listed : Listed (program_of plan) n (take picks area)
  pub at_place : (L : List (List ℕ)) → WholeList (program_of plan) n L → get_elem? L place ≡ some (take picks area)

-- after one step: the next schedule stands there, or the whole list ends here
abbrev pub Advanced : (plan words : List ℕ) → ℕ → List ℕ → ℕ → Option ℕ → Type 0
Advanced plan words n after place (Some picks) = Stands plan words n after picks (place + 1)
Advanced plan words n after place None = (L : List (List ℕ)) → WholeList (program_of plan) n L → length L ≡ place + 1

-- what counting on from the first schedule answers
abbrev pub CountsOn : (plan : List ℕ) → (n limit : ℕ) → Option ℕ → Type 0
CountsOn plan n limit (Some r) = ((L : List (List ℕ)) → WholeList (program_of plan) n L → r ≡ length L) × (r ≤ limit)
CountsOn plan n limit None = (L : List (List ℕ)) → WholeList (program_of plan) n L → limit < length L
