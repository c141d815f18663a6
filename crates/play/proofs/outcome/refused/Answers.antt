-- `refused` meets its contract: no pick, no move, no record, no thread. Assumes nothing.
use mathlib.Core.Path.{refl}
use Rattle.play.proofs.outcome.refused.Goals as goal

pub returns : goal.returns
returns g c = record { checked_value = refl; outcome_value = refl }
