-- `judge::pass::pass` meets its contract. Assumes nothing.
use Rattle.format.specs.Version.{version_of}
use Rattle.log_places.specs.Inner.Places.{numbers_of, given_of}
use Rattle.judge.proofs.Going.{Going}
use lib.ListN.{length}
use mathlib.Core.Path.{◌≡◌}
use Rattle.judge.proofs.pass.pass.Given as goal

abbrev pub invariant-loop-index : goal.invariant-loop-index
invariant-loop-index l =
    (length l.table ≡ length l.initial.table) × (length l.numbers ≡ 1024)
    × Going (version_of l.version) l.log l.places l.index (numbers_of l.places l.numbers) (given_of l.places l.given) l.table
