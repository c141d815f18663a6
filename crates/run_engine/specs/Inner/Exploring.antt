-- A run that goes on behind its picks by the lowest thread that can be picked, and notes at each place what could be picked there. For inner contracts; no
-- reader of the entries' promises needs it. Assumes nothing.
use Rattle.std.specs.Prelude.{ℕ, ◌+◌, ◌*◌, ◌/◌, ◌%◌, ◌≤◌, ◌<◌, ◌≡◌, false, cond, List, ◌++◌, map, ltb, length, get_or, take, drop}
use Rattle.run_outcome.specs.declared.Outcome.{Outcome}
use Rattle.run_state.specs.declared.Setting.{Setting}
use Rattle.run_engine.specs.declared.Explored.{Explored}
use Rattle.run_engine.specs.Inner.Engine.{EngineState, Played, play_of, CountedBefore}
use Rattle.run_open_threads.specs.Inner.Open.{open_after, LowestFrom}

-- the picks: the given ones, and behind them those that are noted, 16 times in each note
abbrev pub all_picks : List ℕ → List ℕ → List ℕ
all_picks picks notes = picks ++ map (λ (x : ℕ). x / 16) (drop (length picks) notes)

-- the pick of a place, where the run goes on by this thread
abbrev pub pick_at : List ℕ → ℕ → ℕ → ℕ
pick_at picks i lowest = cond (ltb i (length picks)) (get_or picks i 0) lowest

-- so many picks are made before the first look at all threads: all where nothing is noted, and else none
pub record Unseen (picks places r : ℕ) : Type 0 where
  pub all : places ≡ 0 → r ≡ picks
  pub none : 0 < places → r ≡ 0

-- few picks and places for notes, and room for a record to each
pub record Explorable (picks notes log : List ℕ) : Type 0 where
  pub few : length picks ≤ 4096
  pub room : length picks * 3 ≤ length log
  pub few_notes : length notes ≤ 4096
  pub room_notes : length notes * 3 ≤ length log

-- what is noted before the pick p, where the picks before it come to this outcome: the lowest thread that can be picked, and the lowest above p, or 8
pub record NotedAt (o : Outcome) (p note : ℕ) : Type 0 where
  pub there : note / 16 < 8
  pub lowest : LowestFrom (open_after o) 0 (note / 16)
  pub higher : LowestFrom (open_after o) (p % 8 + 1) (note % 16)

-- the run from a state: where no note is lent, of the given picks; else behind them by the lowest thread, to the last place, to a stop, or to where none can
module _ (ws rs : List ℕ) (g : Setting) (m : EngineState) (picks : List ℕ) where
  -- the run of the first k picks
  abbrev pub first_run : List ℕ → ℕ → Played
  first_run notes k = play_of ws rs g m (take k (all_picks picks notes)) 0

  pub record ExploredOn (before after log : List ℕ) (r : Explored) : Type 0 where
    pub kept : length after ≡ length before
    pub within : r.made ≤ length (all_picks picks after)
    pub unnoted : length before ≡ 0 → r.made ≡ length picks
    pub places : 0 < length before → r.made ≤ length before
    pub outcome : r.ran.outcome ≡ (first_run after r.made).outcome
    pub area : log ≡ (first_run after r.made).area
    pub counted : CountedBefore ws rs g m (take r.made (all_picks picks after)) r.ran
    pub noted : (i : ℕ) → i < r.made → i < length before → NotedAt (first_run after i).outcome (get_or (all_picks picks after) i 0) (get_or after i 0)
    pub shut : r.made < length before → (k : ℕ) → k < 8 → open_after r.ran.outcome k ≡ false
