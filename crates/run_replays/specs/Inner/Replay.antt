-- What a run of some picks is given, and what it tells at each place. For inner contracts; no reader of the entries' promise needs it. Assumes nothing.
use Rattle.std.specs.Prelude.{ℕ, ◌+◌, ◌%◌, ◌≤◌, ◌<◌, ◌≡◌, Bool, false, List, length, get_or, take}
use Rattle.std.proofs.Math.Option.{none}
use Rattle.plan_packed.specs.Format.{terms}
use Rattle.plan_packed.specs.Trees.{program_of}
use Rattle.plan_packed.specs.Check.{refusal}
use Rattle.plan_packed.specs.Inner.Steps.{Loaded}
use Rattle.run_open_threads.specs.Inner.Open.{LowestFrom}
use Rattle.run_engine.specs.declared.Explored.{Explored}
use Rattle.run_engine.specs.Inner.Exploring.{all_picks}
use Rattle.play.specs.Inner.RunOn.{OutcomeOf}
use Rattle.listing.specs.Inner.CanFollow.{can_follow}

-- a plan that passes, and its words
pub record Accepted (plan words : List ℕ) : Type 0 where
  pub plan_passes : refusal plan ≡ none
  pub loaded : Loaded plan (terms plan) words

-- picks of eight threads
abbrev pub OfEight : List ℕ → Type 0
OfEight picks = (j : ℕ) → j < length picks → get_or picks j 0 < 8

-- a plan, picks, and room for a note to each and more, few enough for a bound
pub record Replayable (plan words picks notes : List ℕ) : Type 0 where
  pub accepted : Accepted plan words
  pub of_eight : OfEight picks
  pub room : length picks ≤ length notes
  pub few : length notes ≤ 64

-- at place i: the pick, which is the lowest that can follow where none is given, and the note of the lowest thread above it that can, or 8
pub record PlaceNoted (can : List ℕ → ℕ → Bool) (given : ℕ) (ps notes : List ℕ) (i : ℕ) : Type 0 where
  pub of_eight : get_or ps i 0 < 8
  pub lowest : given ≤ i → LowestFrom (can (take i ps)) 0 (get_or ps i 0)
  pub higher : LowestFrom (can (take i ps)) (get_or ps i 0 + 1) (get_or notes i 0 % 16)

-- the run of the given picks and of those noted behind them: its outcome, its places, and that nothing can follow where it is shorter than there is room
pub record Explores (plan picks before after : List ℕ) (r : Explored) : Type 0 where
  pub kept : length after ≡ length before
  pub within : r.made ≤ length before
  pub outcome : OutcomeOf plan (take r.made (all_picks picks after)) r.ran.outcome
  pub noted : (i : ℕ) → i < r.made → PlaceNoted (can_follow (program_of plan)) (length picks) (all_picks picks after) after i
  pub shut : r.made < length before → (k : ℕ) → k < 8 → can_follow (program_of plan) (take r.made (all_picks picks after)) k ≡ false
