-- Demand 2 of a play: what `played` says has run is an execution, and so is what the entry answers. Assumes nothing.
use Prim.Native.Nat.{ℕ}
use mathlib.Core.Path.{◌≡◌, sym, ◌∙◌, subst as along}
use mathlib.Core.List.{List}
use Rattle.plan_packed.specs.Trees.{program_of}
use Rattle.std.specs.Prelude.{Ok}
use Rattle.plan_refusals.proofs.Stages.{passed_refused}
use Rattle.rules.specs.Run as run
use Rattle.rules.specs.Run.{log}
use Rattle.rules.specs.Executed.{Executed}
use Rattle.rules.specs.Play as play
use Rattle.rules.specs.Play.{played, area_after, run_of}
use Rattle.rules.proofs.Executed.{plan_executed}
use Rattle.play.specs.Played.{Played}
use Rattle.play.specs.Answer.{outcome_of, answered, NoRunIfRefused}
use Rattle.play.specs.ExecutedOn.{ExecutedIfPassed}
use Rattle.play.proofs.Ran.{ran_passed, ran_outcome, ran_area, ran_is}

-- of every entry whose answer is `played`
pub played_executed : (plan schedule area : List ℕ) (o : run.Outcome) → play.Played.ran o ≡ played plan schedule area
    → Executed (program_of plan) schedule o (log (run_of plan schedule))
unfolding run_of
played_executed plan schedule area o h =
    along (λ (x : run.Outcome). Executed (program_of plan) schedule x (log (run_of plan schedule))) (sym (ran_outcome plan schedule area o h))
    (plan_executed plan (ran_passed plan schedule area o h).plan_passes schedule)

-- of the entry `play`
pub executed_on : (plan schedule area : List ℕ) (p : Played) → answered p ≡ played plan schedule area → (after : List ℕ) → after ≡ area_after plan schedule area
    → ExecutedIfPassed plan schedule area after p
executed_on plan schedule area p h after left e =
    let x = ran_is plan schedule area p h e in
    record {
      log = log (run_of plan schedule);
      executed = played_executed plan schedule area (outcome_of p.outcome) x;
      area = left ∙ ran_area plan schedule area (outcome_of p.outcome) x;
    }

-- the contract of `play`, where nothing refuses it
pub ran_whole : (plan schedule area : List ℕ) (p : Played) (after : List ℕ) → p.checked ≡ Ok tt
    → answered p ≡ played plan schedule area → after ≡ area_after plan schedule area
    → (answered p ≡ played plan schedule area) × ((after ≡ area_after plan schedule area) × (NoRunIfRefused p × ExecutedIfPassed plan schedule area after p))
ran_whole plan schedule area p after e h left = (h, (left, (λ r q. passed_refused e q, executed_on plan schedule area p h after left)))
