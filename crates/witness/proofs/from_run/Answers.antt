-- `from_run` meets its contract: the run with a record for every move, and what is written from them. Assumes nothing.
use Prim.Native.Nat.{ℕ}
use native.Mathlib.Omega.{arith}
use mathlib.Core.Path.{◌≡◌, ap, ◌∙◌}
use borrow.Author.Rules.{rules}
use Rattle.rules.specs.Run.{Stop}
use Rattle.run_outcome.specs.declared.Stop as code-stop
use Rattle.play.specs.Answer.{stop_of}
use Rattle.witness.proofs.Moves.{no_race, given, few_records, within, begins, not_raced, raced_in, witnessed}
use borrow.Enum.Refused.{opened}
use Rattle.witness.proofs.from_run.Goals as goal

pub run-ran-requires : goal.run-ran-requires
run-ran-requires c = given c.requires

pub returns-in_default : goal.returns-in_default
returns-in_default c =
    rw c.at.ensures (not_raced c.requires _ c.run-ran.result c.run-ran.ensures (no_race _ (opened c.in_default.in_default-own.keys2)) _)

pub record_bytes-end-requires : goal.record_bytes-end-requires
record_bytes-end-requires c =
    few_records c.requires _ c.run-ran.result c.run-ran.ensures

pub slice_bounds-write-end : goal.slice_bounds-write-end
slice_bounds-write-end c =
    omega (arith, within c.requires _ c.run-ran.result c.run-ran.ensures _ c.record_bytes-end.ensures)

pub write-requires : goal.write-requires
unfolding stop_of
write-requires c =
    raced_in c.requires _ c.run-ran.result c.run-ran.ensures (ap stop_of c.in-Race.is) _
    (begins c.requires _ c.run-ran.result c.run-ran.ensures _ c.record_bytes-end.ensures)

pub returns : goal.returns
unfolding stop_of
returns c =
    witnessed c.requires _ c.run-ran.result c.run-ran.ensures (ap stop_of c.in-Race.is) _
    (begins c.requires _ c.run-ran.result c.run-ran.ensures _ c.record_bytes-end.ensures)
    c.write.ensures
