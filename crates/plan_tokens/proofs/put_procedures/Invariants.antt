-- `put_procedures` meets its contract. The invariant: the procedures before this one are written. Assumes nothing.
use mathlib.Core.Path.{◌≡◌}
use lib.ListN.{length}
use Rattle.plan_tokens.specs.Inner.Begun.{Given}
use Rattle.plan_tokens.proofs.Parts.{At}
use Rattle.plan_tokens.proofs.put_procedures.Given as goal

abbrev pub invariant-loop-procedure : goal.invariant-loop-procedure
invariant-loop-procedure l =
    (length l.stack ≡ length l.initial.stack) × ((g : Given l.plan l.words) → At l.plan l.words g l.initial.area l.from l.procedure l.area l.at)
