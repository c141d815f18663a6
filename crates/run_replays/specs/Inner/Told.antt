-- Whether a schedule is listed, and what can be picked in place of each of its picks. For inner contracts; no reader of the entries' promise needs it. Assumes
-- nothing.
use Rattle.std.specs.Prelude.{ℕ, ◌+◌, ◌%◌, ◌≤◌, ◌<◌, ◌≡◌, Bool, true, false, List, length, get_or, take}
use Rattle.plan_packed.specs.Syntax.{Program}
use Rattle.run_open_threads.specs.Inner.Open.{LowestFrom}
use Rattle.listing.specs.Listed.{Listed}
use Rattle.listing.specs.Inner.CanFollow.{can_follow}
use Rattle.run_replays.specs.Inner.Replay.{Accepted, OfEight}

-- the answer to a question
abbrev pub Tells : Bool → Type 0 → Type 0
Tells b A = (b ≡ true → A) × (b ≡ false → A → ⊥)

-- a plan, a schedule, a bound, and room for its notes
pub record Listable (plan words : List ℕ) (n : ℕ) (schedule notes : List ℕ) : Type 0 where
  pub accepted : Accepted plan words
  pub of_eight : OfEight schedule
  pub bound : n ≤ 64
  pub room : n ≤ length notes

-- at each place of a schedule the lowest thread above its pick that could be picked there is noted, or 8
pub record Noted (g : Program) (ps notes : List ℕ) : Type 0 where
  pub room : length ps ≤ length notes
  pub higher : (i : ℕ) → i < length ps → LowestFrom (can_follow g (take i ps)) (get_or ps i 0 + 1) (get_or notes i 0 % 16)

-- whether it is listed; and where it is, its notes
pub record ListedBy (g : Program) (n : ℕ) (ps notes : List ℕ) (r : Bool) : Type 0 where
  pub tells : Tells r (Listed g n ps)
  pub noted : r ≡ true → Noted g ps notes
