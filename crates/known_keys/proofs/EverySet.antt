-- Every set, at every moment (document 02, E9), for every accepted plan of either version, every schedule and every pick of it. Assumes nothing.
use Prim.Native.Nat.{ℕ}
use mathlib.Core.Path.{◌≡◌, refl, sym, ap, ◌∙◌, subst as along}
use mathlib.Core.List.{List}
use mathlib.Core.Logic.Iff
use mathlib.Core.Option.{none}
use lib.ListN.{take, drop, take-append-drop}
use Rattle.plan_packed.specs.Syntax.{Program}
use Rattle.plan_packed.specs.Trees.{program_of}
use Rattle.plan_packed.specs.Check.{refusal}
use Rattle.plan_packed.proofs.WellFormed.{WellFormedProgram}
use Rattle.plan_packed.proofs.Decoded.{well_formed}
use Rattle.log_order.proofs.Tests.{or_iff}
use Rattle.rules.specs.State.{start}
use Rattle.rules.specs.Run.{Stop, run, play, log}
use Rattle.rules.specs.Play.{run_of}
use Rattle.rules.proofs.RunKeys.{every_set_of_runs}
use Rattle.rules.proofs.RunAppend.{and_then, run_append, run_stopped}
use Rattle.known_keys.specs.KnownKeys.{EverySet, AfterEveryPick}
use Rattle.known_keys.proofs.Chained.{would_reach↔}

-- where the run of any picks stands, of any well-formed program
pub every_set_played : (g : Program) → WellFormedProgram g → (ps : List ℕ) → EverySet g.version (play g ps)
every_set_played g P ps t x h r n k = Iff.trans (every_set_of_runs g P ps t x h k) (or_iff (would_reach↔ g.version (log (play g ps)) t r n k))

-- ---- accepted plans

run_is : (plan schedule : List ℕ) → run_of plan schedule ≡ play (program_of plan) schedule
unfolding run_of
run_is plan schedule = refl

-- E9: any accepted plan, any list of picks, after every pick
pub every_set_at_every_moment : (plan schedule : List ℕ) → refusal plan ≡ none → AfterEveryPick plan schedule
every_set_at_every_moment plan schedule h n =
    along (EverySet (program_of plan).version) (sym (run_is plan (take n schedule))) (every_set_played (program_of plan) (well_formed plan h) (take n schedule))

-- ---- the run of the first n picks is where the whole run stands after them

module _ (plan schedule : List ℕ) (n : ℕ) where
  -- the whole run goes on from there
  pub goes_on_lem : (run_of plan (take n schedule)).stop ≡ Stop.end
      → run_of plan schedule ≡ and_then (run_of plan (take n schedule)) (run (program_of plan) (run_of plan (take n schedule)).final (drop n schedule))
  unfolding run_of play
  goes_on_lem h = ap (run (program_of plan) start) (sym (take-append-drop n schedule)) ∙ run_append (program_of plan) start (take n schedule) (drop n schedule) h

  -- or has stopped there
  pub stays : ((run_of plan (take n schedule)).stop ≡ Stop.end → ⊥) → run_of plan schedule ≡ run_of plan (take n schedule)
  unfolding run_of play
  stays h = ap (run (program_of plan) start) (sym (take-append-drop n schedule)) ∙ run_stopped (program_of plan) start (take n schedule) (drop n schedule) h
