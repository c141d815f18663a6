-- The schedules that are listed (document 02, E11), each by its run. Assumes nothing.
use Rattle.std.specs.Prelude.{ℕ, ◌≤◌, ◌<◌, ◌≡◌, List, length, get_or, take}
use Rattle.plan_packed.specs.Syntax.{Program}
use Rattle.rules.specs.Room.{PickAnswerOf, step}
use Rattle.rules.specs.Run.{Stop, play}
use Rattle.listing.specs.Order.{Least, LeastAbove, NoneAbove}

module _ (g : Program) (n : ℕ) (ps : List ℕ) where
  -- "that cannot be extended"
  pub data Whole : Type 0 where
    -- "it has n picks"
    HAS-N : length ps ≡ n → Whole
    -- "or its last pick stops the run"
    STOPS : ((play g ps).stop ≡ Stop.end → ⊥) → Whole
    -- "or no thread can move or stop after it": every pick would be passed over
    NONE-CAN : ((p : ℕ) → p < 8 → step g (play g ps).final p ≡ PickAnswerOf.passed) → Whole

  -- "For a bound n list each schedule"
  pub record Listed : Type 0 where
    -- "of at most n picks"
    pub at_most : length ps ≤ n
    -- each of one of eight threads
    pub of_eight : (i : ℕ) → i < length ps → get_or ps i 0 < 8
    -- "none passed over": pick i, in the state where the run of the picks before it stands
    pub none_passed : (i : ℕ) → i < length ps → step g (play g (take i ps)).final (get_or ps i 0) ≡ PickAnswerOf.passed → ⊥
    -- "and none after a stop": the run of the picks before pick i has not stopped
    pub none_after : (i : ℕ) → i < length ps → (play g (take i ps)).stop ≡ Stop.end
    pub whole : Whole

-- "the tool writes the first when told to begin"
abbrev pub First : Program → ℕ → List ℕ → Type 0
First g n = Least (Listed g n)

-- "and, given a listed schedule, the following one"
abbrev pub Following : Program → ℕ → List ℕ → List ℕ → Type 0
Following g n = LeastAbove (Listed g n)

-- "or says the list is over"
abbrev pub Over : Program → ℕ → List ℕ → Type 0
Over g n = NoneAbove (Listed g n)
