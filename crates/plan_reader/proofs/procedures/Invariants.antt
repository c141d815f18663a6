-- `procedures` meets its contract. The invariant: the procedures before this one have been read, into arrays of the same lengths. Assumes nothing.
use mathlib.Core.Path.{◌≡◌}
use lib.ListN.{length}
use Rattle.plan_reader.specs.Inner.Reading.{Going}
use Rattle.plan_reader.proofs.procedures.Given as goal

abbrev pub invariant-loop-procedure : goal.invariant-loop-procedure
invariant-loop-procedure l =
    Going l.tokens l.heading.version l.heading.mask l.words l.roots l.parameters l.procedure l.rest.at l.rest.left
    × (length l.words ≡ length l.initial.words)
    × (length l.goals ≡ length l.initial.goals)
    × (length l.values ≡ length l.initial.values)
