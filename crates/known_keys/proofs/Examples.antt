-- The examples of every set, by computation: one theorem over all rows. The sets are computed twice, by the run and by the log alone. Assumes nothing.
use Prim.Native.Nat.{ℕ, suc}
use mathlib.Core.Path.{◌≡◌, refl}
use mathlib.Core.List.{List, [], ◌∷◌, map}
use mathlib.Core.Option.{Option, none}
use Rattle.format.specs.Version.{Version}
use Rattle.format.specs.Refusal.{Refusal}
use Rattle.run_keys.specs.Keys.{Keys, holds, count_new}
use Rattle.plan_packed.specs.Trees.{program_of}
use Rattle.plan_packed.specs.Check.{refusal}
use Rattle.log_records.specs.Record.{Record}
use Rattle.rules.specs.State.{Thread}
use Rattle.rules.specs.Run.{log}
use Rattle.rules.specs.Play.{run_of}
use Rattle.known_keys.specs.Examples.{Example, examples}
use Rattle.known_keys.proofs.Computed.{keys_by_log}

-- the sets of a run's threads
abbrev sets_of : List Thread → List Keys
sets_of xs = map (λ (x : Thread). x.keys) xs

-- the sets of as many threads, from thread t on, computed from the log alone; that these are the sets of the definition is `computed`
abbrev by_log_from : Version → List Record → ℕ → List Thread → List Keys
by_log_from v L t [] = []
by_log_from v L t (x ∷ xs) = keys_by_log v L t ∷ by_log_from v L (suc t) xs

-- the picks up to each moment
abbrev moments : List ℕ → List (List ℕ)
moments [] = [] ∷ []
moments (p ∷ ps) = [] ∷ map (λ (qs : List ℕ). p ∷ qs) (moments ps)

-- of a row: whether its plan is refused; its sets at the end; its sets at every moment
record Came : Type 0 where
  refused : Option Refusal
  last : List Keys
  every : List (List Keys)

abbrev by_run : Example → Came
by_run x = record {
  refused = refusal x.plan;
  last = sets_of (run_of x.plan x.picks).final.threads;
  every = map (λ (ps : List ℕ). sets_of (run_of x.plan ps).final.threads) (moments x.picks);
}

abbrev by_log : Example → Came
by_log x = record {
  refused = none;
  last = x.sets;
  every = map (λ (ps : List ℕ). let r = run_of x.plan ps in by_log_from (program_of x.plan).version (log r) 0 r.final.threads) (moments x.picks);
}

-- every plan passes the check, the sets come out as the row says, and at every moment the run's sets are those of its log
examples_come_out : map by_run examples ≡ map by_log examples
unfolding examples refusal run_of log program_of keys_by_log holds count_new
examples_come_out = refl
