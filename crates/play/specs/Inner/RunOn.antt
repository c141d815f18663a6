-- A run on an accepted plan: what it is given, and what it comes to. No reader of the entry's promise needs it. Assumes nothing.
use Rattle.std.specs.Prelude.{ℕ, ◌*◌, ◌≤◌, ◌<◌, ◌≡◌, Bool, true, false, List, length, get_or, take}
use Rattle.std.proofs.Math.Option.{none}
use Rattle.format.specs.Area.{overwrite}
use Rattle.plan_packed.specs.Format.{terms}
use Rattle.plan_packed.specs.Trees.{program_of}
use Rattle.plan_packed.specs.Check.{refusal}
use Rattle.plan_packed.specs.Inner.Steps.{Loaded}
use Rattle.log_records.specs.Packed.{bytes_of}
use Rattle.rules.specs.Run as run
use Rattle.rules.specs.Run.{instances, log}
use Rattle.rules.specs.Play.{run_of}
use Rattle.side_by_side.specs.Moves.{moves_of}
use Rattle.run_engine.specs.Inner.Engine.{picks_before}
use Rattle.run_tally.specs.declared.Ran.{Ran}
use Rattle.run_engine.specs.declared.Explored.{Explored}
use Rattle.run_open_threads.specs.Inner.Open.{open_after}
use Rattle.run_engine.specs.Inner.Exploring.{all_picks, NotedAt}
use Rattle.run_outcome.specs.declared.Outcome.{Outcome}
use Rattle.play.specs.Answer.{stop_of, outcome_of}

-- a plan that passes, its words, few picks of eight threads, a log area with room for a record to each
pub record Given (plan words picks area : List ℕ) : Type 0 where
  pub plan_passes : refusal plan ≡ none
  pub loaded : Loaded plan (terms plan) words
  pub few : length picks ≤ 4096
  pub small : (j : ℕ) → j < length picks → get_or picks j 0 ≤ 7
  pub wide : 3 * length picks ≤ length area

-- the defined run's outcome and log; and how many moves and records the run of the picks before the last that it met has
pub record RunOn (plan picks before after : List ℕ) (r : Ran) : Type 0 where
  pub outcome : outcome_of r.outcome ≡ run.outcome_of (program_of plan) (run_of plan picks)
  pub area : after ≡ overwrite (bytes_of (log (run_of plan picks))) before
  pub moves_before : r.before.moves ≡ length (instances (run_of plan (picks_before r.outcome.picks picks)))
  pub records_before : r.before.records ≡ length (log (run_of plan (picks_before r.outcome.picks picks)))

-- where every move is to have a record: the defined run's stop, and its moves
pub record MovesOn (plan picks before after : List ℕ) (r : Ran) : Type 0 where
  pub stop : stop_of r.outcome.stop ≡ (run_of plan picks).stop
  pub records : r.outcome.records ≡ length (moves_of (program_of plan) picks)
  pub area : after ≡ overwrite (bytes_of (moves_of (program_of plan) picks)) before

-- the one or the other
abbrev pub RunBy : Bool → (plan picks before after : List ℕ) → Ran → Type 0
RunBy true plan picks before after r = MovesOn plan picks before after r
RunBy false plan picks before after r = RunOn plan picks before after r

-- the outcome is that of the picks' run
abbrev pub OutcomeOf : List ℕ → List ℕ → Outcome → Type 0
OutcomeOf plan picks o = outcome_of o ≡ run.outcome_of (program_of plan) (run_of plan picks)

-- few places for notes, and room in a log area for a record to each
pub record Notable (notes area : List ℕ) : Type 0 where
  pub few : length notes ≤ 4096
  pub wide : 3 * length notes ≤ length area

-- a run that goes on behind the given picks: where no note is lent, it does not; else to the last place, to a stop, or to where no thread can be picked
pub record ExploredBy (every : Bool) (plan picks before after notes noted : List ℕ) (r : Explored) : Type 0 where
  pub kept : length noted ≡ length notes
  pub within : r.made ≤ length (all_picks picks noted)
  pub unnoted : length notes ≡ 0 → r.made ≡ length picks
  pub places : 0 < length notes → r.made ≤ length notes
  pub of_eight : (i : ℕ) → i < r.made → get_or (all_picks picks noted) i 0 < 8
  pub run_by : RunBy every plan (take r.made (all_picks picks noted)) before after r.ran
  -- what is noted at a place, by the outcome of the picks before it
  pub notes_at : every ≡ false → (i : ℕ) → i < r.made → i < length notes
      → (o : Outcome) × OutcomeOf plan (take i (all_picks picks noted)) o × NotedAt o (get_or (all_picks picks noted) i 0) (get_or noted i 0)
  pub shut : r.made < length notes → (k : ℕ) → k < 8 → open_after r.ran.outcome k ≡ false
