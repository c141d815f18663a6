-- Every set, at every moment (document 02, E9), in the words of the running code: "Support staff read key sets in the debugger and want to rely on them."
-- Assumes nothing.
use Rattle.std.specs.Prelude.{ℕ, ◌<◌, ◌≡◌, false, List, length, take}
use Rattle.format.specs.Area.{overwrite}
use Rattle.run_keys.specs.Inner.KeySet.{keys_of}
use Rattle.plan_packed.specs.Trees.{program_of}
use Rattle.log_records.specs.Packed.{bytes_of}
use Rattle.rules.specs.Run.{log}
use Rattle.rules.specs.Play.{run_of}
use Rattle.run_state.specs.declared.Setting.{Setting}
use Rattle.run_engine.specs.Inner.Engine.{head_at, start_of}
use Rattle.known_keys.specs.KnownKeys.{HoldsJust}
use Rattle.known_key_words.specs.Standing.{Standing, engine_of, area_of, standing}

-- of the run of these picks on the plan, and of where the run on numbers stands that was lent the area
pub record InWords (plan picks area : List ℕ) (s : Standing) : Type 0 where
  -- "a present thread": as many as are counted
  pub present : (engine_of s).tally.counts.threads ≡ length (run_of plan picks).final.threads
  -- its "set": the one that the four words of its head stand for
  pub sets : (t : ℕ) → t < (engine_of s).tally.counts.threads
      → HoldsJust (program_of plan).version (log (run_of plan picks)) t (keys_of (head_at (engine_of s).heads t).keys)
  -- "the log": the area begins with its records
  pub log : area_of s ≡ overwrite (bytes_of (log (run_of plan picks))) area

-- "After every pick of every run": ws are the words of the plan's terms, rs its roots, g its setting
abbrev pub InWordsAfterEveryPick : (plan schedule area ws rs : List ℕ) → Setting → Type 0
InWordsAfterEveryPick plan schedule area ws rs g = (n : ℕ) → InWords plan (take n schedule) area (standing ws rs g (start_of false rs area) (take n schedule) 0)
