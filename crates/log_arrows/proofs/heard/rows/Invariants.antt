-- `log_arrows::heard::rows` meets its contract. The invariant is `Going`: the rows show the marks, and the rows of the records so far are stored. Assumes nothing.
use Rattle.format.specs.Version.{version_of}
use Rattle.log_arrows.proofs.Going.{Going}
use lib.ListN.{length}
use mathlib.Core.Path.{◌≡◌}
use Rattle.log_arrows.proofs.heard.rows.Given as goal

abbrev pub invariant-loop-index : goal.invariant-loop-index
invariant-loop-index l =
    (length l.heard ≡ length l.initial.heard) × Going (version_of l.version) l.log l.index l.links l.heard
